-- What tries give: a record, lost URLs and pages.
use Rattle.std.proofs.Common.{◌≡◌, ◌⊎◌, ℕ, ◌≤◌, false, List, [], ◌∷◌, ◌++◌, length, bytes_eq, Contains, inl, inr, ⊎_elim, refl, sym, ap, subst, ◌∙◌, append-nil}
use Rattle.std.specs.List.{flat_map, IsDistinct, AllByRecursion}
use Rattle.std.proofs.lemmas.Cmp.{nat_list_eq_equiv}
use Rattle.std.proofs.lemmas.Grind.{flat_map-append}
use Rattle.std.proofs.lemmas.List.{map-append}
use Rattle.std.proofs.lemmas.List.Elements.{Contains-append_left, Contains-append_right, Contains-append_cases}
use Rattle.std.proofs.lemmas.Map.Keys.{IsDistinct-head, IsDistinct-tail, IsDistinct-cons}
use Rattle.std.proofs.lemmas.Map.Made.{length-le_from_is_member}
use Rattle.std.proofs.lemmas.Map.Views.{list_any-from_Contains, Contains-from_any}
use Rattle.timemap_reader.specs.Firsts.{firsts}
use Rattle.timemap_reader.specs.declared.page.Page.{Page}
use Rattle.timemap_reader.proofs.FirstLaws.{firsts_distinct, from_firsts, same_text}
use Rattle.harvester.specs.declared.faults.WalkFault.TheVariants.{Fetch}
use Rattle.harvester.specs.Answers.{Entry}
use Rattle.harvester.specs.Closure.{Lost, urls}
use Rattle.harvester.specs.Tries.{Came, Try, answer_of, loss_of, page_of, answers_of, losses_of, pages_of}
use Rattle.harvester.specs.Tries.Came.{Good, Failing, Unanswered}
use Rattle.memento_time.proofs.ListFacts.{no_element, first_element, later_element, first_or_later}

-- where one URL more was tried
module _ (ts : List Try) (t : Try) where
  pub answers_push : answers_of (ts ++ t ∷ []) ≡ answers_of ts ++ answer_of t.0 t.1
  answers_push = flat_map-append (λ (x : Try). answer_of x.0 x.1) ts (t ∷ []) ∙ ap (λ (zs : List Entry). answers_of ts ++ zs) (append-nil (answer_of t.0 t.1))

  pub losses_push : losses_of (ts ++ t ∷ []) ≡ losses_of ts ++ loss_of t.0 t.1
  losses_push = flat_map-append (λ (x : Try). loss_of x.0 x.1) ts (t ∷ []) ∙ ap (λ (zs : List Lost). losses_of ts ++ zs) (append-nil (loss_of t.0 t.1))

  pub pages_push : pages_of (ts ++ t ∷ []) ≡ pages_of ts ++ page_of t.1
  pages_push = flat_map-append (λ (x : Try). page_of x.1) ts (t ∷ []) ∙ ap (λ (zs : List Page). pages_of ts ++ zs) (append-nil (page_of t.1))

  pub urls_push : urls (ts ++ t ∷ []) ≡ urls ts ++ t.0 ∷ []
  urls_push = map-append (λ (x : Try). x.0) ts (t ∷ [])

-- an element of what a list gives, and of what one of its elements gives
pub in_flat_map : {A B : Type 0} (f : A → List B) (xs : List A) (x : A) (y : B) → Contains xs x → Contains (f x) y → Contains (flat_map f xs) y
in_flat_map f [] x y c d = absurd (no_element x c)
in_flat_map f (z ∷ xs) x y c d =
    ⊎_elim
    (λ here. Contains-append_left (f z) (flat_map f xs) y (subst (λ w. Contains (f w) y) (sym here) d))
    (λ there. Contains-append_right (f z) (flat_map f xs) y (in_flat_map f xs x y there d))
    (first_or_later z xs x c)

pub from_flat_map : {A B : Type 0} (f : A → List B) (xs : List A) (y : B) → Contains (flat_map f xs) y → (x : A) × Contains xs x × Contains (f x) y
from_flat_map f [] y c = absurd (no_element y c)
from_flat_map f (z ∷ xs) y c =
    ⊎_elim
    (λ here. (z, first_element z xs, here))
    (λ there. let r = from_flat_map f xs y there in (r.0, later_element z xs r.0 r.1, r.2))
    (Contains-append_cases (f z) (flat_map f xs) y c)

only : {A : Type 0} (y x : A) → Contains (y ∷ []) x → y ≡ x
only y x c = ⊎_elim (λ e. e) (λ none. absurd (no_element x none)) (first_or_later y [] x c)

-- a URL of a list stands in an element of it
pub entry_of : {A : Type 0} (es : List (List ℕ × A)) (u : List ℕ) → Contains (urls es) u → (e : List ℕ × A) × Contains es e × (e.0 ≡ u)
entry_of [] u c = absurd (no_element u c)
entry_of (e ∷ es) u c =
    ⊎_elim
    (λ here. (e, first_element e es, here))
    (λ there. let f = entry_of es u there in (f.0, later_element e es f.0 f.1, f.2))
    (first_or_later e.0 (urls es) u c)

pub url_taken : {A : Type 0} (es : List (List ℕ × A)) (e : List ℕ × A) → Contains es e → Contains (urls es) e.0
url_taken [] e c = absurd (no_element e c)
url_taken {A} (x ∷ es) e c =
    ⊎_elim
    (λ here. subst (λ (y : List ℕ × A). Contains (urls (x ∷ es)) y.0) here (first_element x.0 (urls es)))
    (λ there. later_element x.0 (urls es) e.0 (url_taken es e there))
    (first_or_later x es e c)

-- the URL of an answer or of a loss is the one that was tried
answer_url : (u : List ℕ) (c : Came) (e : Entry) → Contains (answer_of u c) e → u ≡ e.0
answer_url u (Good a p) e c = ap (λ (x : Entry). x.0) (only (u, a) e c)
answer_url u (Failing a f) e c = ap (λ (x : Entry). x.0) (only (u, a) e c)
answer_url u (Unanswered f) e c = absurd (no_element e c)

loss_url : (u : List ℕ) (c : Came) (l : Lost) → Contains (loss_of u c) l → u ≡ l.0
loss_url u (Good a p) l c = absurd (no_element l c)
loss_url u (Failing a f) l c = ap (λ (x : Lost). x.0) (only (u, f) l c)
loss_url u (Unanswered f) l c = ap (λ (x : Lost). x.0) (only (u, Fetch f) l c)

-- the try that an answer or a loss comes from
pub try_answered : (ts : List Try) (e : Entry) → Contains (answers_of ts) e → (t : Try) × Contains ts t × Contains (answer_of t.0 t.1) e × (t.0 ≡ e.0)
try_answered ts e c = let r = from_flat_map (λ (x : Try). answer_of x.0 x.1) ts e c in (r.0, r.1, r.2, answer_url r.0.0 r.0.1 e r.2)

pub try_lost : (ts : List Try) (l : Lost) → Contains (losses_of ts) l → (t : Try) × Contains ts t × Contains (loss_of t.0 t.1) l × (t.0 ≡ l.0)
try_lost ts l c = let r = from_flat_map (λ (x : Try). loss_of x.0 x.1) ts l c in (r.0, r.1, r.2, loss_url r.0.0 r.0.1 l r.2)

pub answer_taken : (ts : List Try) (t : Try) (e : Entry) → Contains ts t → Contains (answer_of t.0 t.1) e → Contains (answers_of ts) e
answer_taken ts t e c d = in_flat_map (λ (x : Try). answer_of x.0 x.1) ts t e c d

pub loss_taken : (ts : List Try) (t : Try) (l : Lost) → Contains ts t → Contains (loss_of t.0 t.1) l → Contains (losses_of ts) l
loss_taken ts t l c d = in_flat_map (λ (x : Try). loss_of x.0 x.1) ts t l c d

-- each URL that was tried was answered or is lost
answered_or_lost : (u : List ℕ) (c : Came) → ((e : Entry) × Contains (answer_of u c) e × (e.0 ≡ u)) ⊎ ((l : Lost) × Contains (loss_of u c) l × (l.0 ≡ u))
answered_or_lost u (Good a p) = inl ((u, a), first_element (u, a) [], refl)
answered_or_lost u (Failing a f) = inl ((u, a), first_element (u, a) [], refl)
answered_or_lost u (Unanswered f) = inr ((u, Fetch f), first_element (u, Fetch f) [], refl)

pub in_both : (ts : List Try) (u : List ℕ) → Contains (urls ts) u → Contains (urls (answers_of ts) ++ urls (losses_of ts)) u
in_both ts u c =
    let t = entry_of ts u c in
    subst (λ v. Contains (urls (answers_of ts) ++ urls (losses_of ts)) v) t.2
    (⊎_elim
    (λ a. subst (λ v. Contains (urls (answers_of ts) ++ urls (losses_of ts)) v) a.2 (Contains-append_left (urls (answers_of ts)) (urls (losses_of ts)) a.0.0 (url_taken
    (answers_of ts) a.0 (answer_taken ts t.0 a.0 t.1 a.1))))
    (λ l. subst (λ v. Contains (urls (answers_of ts) ++ urls (losses_of ts)) v) l.2 (Contains-append_right (urls (answers_of ts)) (urls (losses_of ts)) l.0.0 (url_taken
    (losses_of ts) l.0 (loss_taken ts t.0 l.0 t.1 l.1))))
    (answered_or_lost t.0.0 t.0.1))

pub answer_tried : (ts : List Try) (u : List ℕ) → Contains (urls (answers_of ts)) u → Contains (urls ts) u
answer_tried ts u c =
    let e = entry_of (answers_of ts) u c in
    let t = try_answered ts e.0 e.1 in
    subst (λ v. Contains (urls ts) v) (t.3 ∙ e.2) (url_taken ts t.0 t.1)

pub loss_tried : (ts : List Try) (u : List ℕ) → Contains (urls (losses_of ts)) u → Contains (urls ts) u
loss_tried ts u c =
    let l = entry_of (losses_of ts) u c in
    let t = try_lost ts l.0 l.1 in
    subst (λ v. Contains (urls ts) v) (t.3 ∙ l.2) (url_taken ts t.0 t.1)

pub from_both : (ts : List Try) (u : List ℕ) → Contains (urls (answers_of ts) ++ urls (losses_of ts)) u → Contains (urls ts) u
from_both ts u c = ⊎_elim (answer_tried ts u) (loss_tried ts u) (Contains-append_cases (urls (answers_of ts)) (urls (losses_of ts)) u c)

-- what holds of each URL that was tried holds of those answered and of those lost
all_answered : (P : List ℕ → Type 0) (ts : List Try) → AllByRecursion P (urls ts) → AllByRecursion P (urls (answers_of ts))
all_answered P [] h = tt
all_answered P ((u, Good a p) ∷ ts) h = (h.0, all_answered P ts h.1)
all_answered P ((u, Failing a f) ∷ ts) h = (h.0, all_answered P ts h.1)
all_answered P ((u, Unanswered f) ∷ ts) h = all_answered P ts h.1

all_lost : (P : List ℕ → Type 0) (ts : List Try) → AllByRecursion P (urls ts) → AllByRecursion P (urls (losses_of ts))
all_lost P [] h = tt
all_lost P ((u, Good a p) ∷ ts) h = all_lost P ts h.1
all_lost P ((u, Failing a f) ∷ ts) h = (h.0, all_lost P ts h.1)
all_lost P ((u, Unanswered f) ∷ ts) h = (h.0, all_lost P ts h.1)

pub answered_once : (ts : List Try) → IsDistinct bytes_eq (urls ts) → IsDistinct bytes_eq (urls (answers_of ts))
answered_once [] h = h
answered_once ((u, Good a p) ∷ ts) h =
    IsDistinct-cons bytes_eq u (urls (answers_of ts)) (all_answered (λ y. bytes_eq u y ≡ false) ts (IsDistinct-head bytes_eq u (urls ts) h)) (answered_once ts (IsDistinct-tail bytes_eq u (urls ts) h))
answered_once ((u, Failing a f) ∷ ts) h =
    IsDistinct-cons bytes_eq u (urls (answers_of ts)) (all_answered (λ y. bytes_eq u y ≡ false) ts (IsDistinct-head bytes_eq u (urls ts) h)) (answered_once ts (IsDistinct-tail bytes_eq u (urls ts) h))
answered_once ((u, Unanswered f) ∷ ts) h = answered_once ts (IsDistinct-tail bytes_eq u (urls ts) h)

pub lost_once : (ts : List Try) → IsDistinct bytes_eq (urls ts) → IsDistinct bytes_eq (urls (losses_of ts))
lost_once [] h = h
lost_once ((u, Good a p) ∷ ts) h = lost_once ts (IsDistinct-tail bytes_eq u (urls ts) h)
lost_once ((u, Failing a f) ∷ ts) h =
    IsDistinct-cons bytes_eq u (urls (losses_of ts)) (all_lost (λ y. bytes_eq u y ≡ false) ts (IsDistinct-head bytes_eq u (urls ts) h)) (lost_once ts (IsDistinct-tail bytes_eq u (urls ts) h))
lost_once ((u, Unanswered f) ∷ ts) h =
    IsDistinct-cons bytes_eq u (urls (losses_of ts)) (all_lost (λ y. bytes_eq u y ≡ false) ts (IsDistinct-head bytes_eq u (urls ts) h)) (lost_once ts (IsDistinct-tail bytes_eq u (urls ts) h))

-- texts of which each stands in another list are no more than it has, each counted once
pub no_more_texts : (xs ys : List (List ℕ)) → ((u : List ℕ) → Contains xs u → Contains ys u) → length (firsts xs) ≤ length ys
no_more_texts xs ys all =
    length-le_from_is_member nat_list_eq_equiv (firsts xs) ys (firsts_distinct xs)
    (λ u held. list_any-from_Contains nat_list_eq_equiv u ys (all u (from_firsts xs u (Contains-from_any same_text u (firsts xs) held))))
