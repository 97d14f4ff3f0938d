-- `second_of` is `Reads` as a function.
use Rattle.std.proofs.Common.{◌≡◌, cond, ℕ, zero, suc, ◌<◌, Bool, true, false, ◌||◌, List, [], ◌∷◌, length, take, drop, get_or, Option, Some, None}
use Rattle.std.proofs.Common.{IfSome, Contains, refl, sym, ap, ◌∙◌, arith, inl, inr}
use Rattle.std.proofs.lemmas.Bool.{and_parts, cases_order}
use Rattle.std.proofs.lemmas.Bool.Decides.{Decides-eqb}
use Rattle.std.proofs.lemmas.Option.{same_Some, none-some}
use Rattle.std.proofs.lemmas.Slice.Eq.{bytes_eq-Decides}
use Rattle.std.specs.List.{list_any}
use Rattle.std.specs.Str.{bytes_eq}
use Rattle.memento_time.specs.Blanks.{trim_blanks}
use Rattle.memento_time.specs.BeforeEpoch.{is_before_epoch}
use Rattle.memento_time.specs.Names.{day_names}
use Rattle.memento_time.specs.Second.{imf, Reads, Asks, AsksForFirst}
use Rattle.memento_time.specs.SecondOf.{shows, last_below, second_of, asked_of}
use Rattle.memento_time.proofs.ReadLemmas.{Reads_unique}

any_Contains : (name : List ℕ) (names : List (List ℕ)) → list_any (bytes_eq name) names ≡ true → Contains names name
any_Contains name [] e = absurd (cc)
any_Contains name (x ∷ xs) e =
    elim (bytes_eq name x) as (λ b. bytes_eq name x ≡ b → Contains (x ∷ xs) name) [
      | true ↦ λ f. (0, omega arith, sym ((bytes_eq-Decides name x).0 f))
      | false ↦ λ f. let later = any_Contains name xs (rw f at e) in (suc later.0, omega (arith, later.1), later.2)
    ] refl

Contains_any : (name : List ℕ) (names : List (List ℕ)) (k : ℕ) → k < length names → get_or names k name ≡ name → list_any (bytes_eq name) names ≡ true
Contains_any name [] k h e = absurd (omega arith)
Contains_any name (x ∷ xs) zero h e = rw (e, (bytes_eq-Decides name name).1 refl)
Contains_any name (x ∷ xs) (suc k) h e =
    let later = Contains_any name xs k (omega arith) e in
    elim (bytes_eq name x) as (λ b. (b || list_any (bytes_eq name) xs) ≡ true) [ true ↦ refl | false ↦ later ]

Reads_shows : (text : List ℕ) (s : ℕ) → Reads text s → shows text s ≡ true
unfolding shows
Reads_shows text s h =
    rw (
      (Decides-eqb (length text) 29).1 h.len,
      Contains_any (take 3 text) day_names h.day.0 h.day.1 h.day.2,
      (bytes_eq-Decides (drop 3 text) (drop 3 (imf s))).1 h.rest,
    )

shows_Reads : (text : List ℕ) (s : ℕ) → s < 253402300800 → shows text s ≡ true → Reads text s
unfolding shows
shows_Reads text s h e =
    let outer = and_parts _ _ e in
    let inner = and_parts _ _ outer.0 in
    record {
      second = omega arith;
      len = (Decides-eqb (length text) 29).0 inner.0;
      day = any_Contains (take 3 text) day_names inner.1;
      rest = (bytes_eq-Decides (drop 3 text) (drop 3 (imf s))).0 outer.1;
    }

last_below_some : (test : ℕ → Bool) (n s : ℕ) → last_below test n ≡ Some s → (s < n) × (test s ≡ true)
unfolding last_below
last_below_some test zero s e = absurd (none-some _ e)
last_below_some test (suc n) s e =
    elim (test n) as (λ b. test n ≡ b → (s < suc n) × (test s ≡ true)) [
      | true ↦ λ f. let here : n ≡ s = same_Some _ _ (rw f at e) in (omega arith, rw (← here) f)
      | false ↦ λ f. let below = last_below_some test n s (rw f at e) in (omega (arith, below.0), below.1)
    ] refl

last_below_none : (test : ℕ → Bool) (n k : ℕ) → last_below test n ≡ None → k < n → test k ≡ false
unfolding last_below
last_below_none test zero k e h = absurd (omega arith)
last_below_none test (suc n) k e h =
    elim (test n) as (λ b. test n ≡ b → test k ≡ false) [
      | true ↦ λ f. absurd (none-some _ (sym (rw f at e)))
      | false ↦ λ f.
          elim (cases_order k n) [
            | inl same ↦ rw same f
            | inr (inl lt) ↦ last_below_none test n k (rw f at e) lt
            | inr (inr gt) ↦ absurd (omega arith)
          ]
    ] refl

pub second_of-Reads : (text : List ℕ) (s : ℕ) → Reads text s → second_of text ≡ Some s
unfolding second_of
second_of-Reads text s h =
    elim (last_below (shows text) 253402300800) as (λ o. last_below (shows text) 253402300800 ≡ o → o ≡ Some s) [
      | None ↦ λ e. absurd (let no = last_below_none (shows text) 253402300800 s e (omega (arith, h.second)) in let yes = Reads_shows text s h in cc)
      | Some t ↦ λ e. let at_t = last_below_some (shows text) 253402300800 t e in ap Some (Reads_unique text t s (shows_Reads text t at_t.0 at_t.1) h)
    ] refl

pub Reads-second_of : (text : List ℕ) (s : ℕ) → second_of text ≡ Some s → Reads text s
unfolding second_of
Reads-second_of text s e = let found = last_below_some (shows text) 253402300800 s e in shows_Reads text s found.0 found.1

-- an answer that is read, and that each reading gives, is the function's
pub answer-second_of : (text : List ℕ) (answer : Option ℕ) → IfSome answer (λ s. Reads text s) → ((s : ℕ) → Reads text s → answer ≡ Some s) → answer ≡ second_of text
answer-second_of text (Some s) read exact = sym (second_of-Reads text s read)
answer-second_of text None read exact =
    elim (second_of text) as (λ o. second_of text ≡ o → None ≡ o) [
      | None ↦ λ e. refl
      | Some s ↦ λ e. exact s (Reads-second_of text s e)
    ] refl

second_of_none : (text : List ℕ) → ((t : ℕ) → ¬ Reads text t) → second_of text ≡ None
second_of_none text unread =
    elim (second_of text) as (λ o. second_of text ≡ o → o ≡ None) [
      | None ↦ λ e. refl
      | Some s ↦ λ e. absurd (unread s (Reads-second_of text s e))
    ] refl

pub asked_of-Asks : (text : List ℕ) (s : ℕ) → Asks text s → asked_of text ≡ Some s
unfolding asked_of
asked_of-Asks text s (inl h) = rw (second_of-Reads (trim_blanks text) s h)
asked_of-Asks text s (inr h) = rw (second_of_none (trim_blanks text) h.unread, h.early) (ap Some (sym h.first))

pub Asks-asked_of : (text : List ℕ) (s : ℕ) → asked_of text ≡ Some s → Asks text s
unfolding asked_of
Asks-asked_of text s e =
    elim (second_of (trim_blanks text)) as (λ o. second_of (trim_blanks text) ≡ o → Asks text s) [
      | Some t ↦ λ f. inl (Reads-second_of (trim_blanks text) s (f ∙ rw f at e))
      | None ↦ λ f. inr (early (trim_blanks text) s f (rw f at e))
    ] refl
  where
    early : (date : List ℕ) (s : ℕ) → second_of date ≡ None → cond (is_before_epoch date) (Some 0) None ≡ Some s → AsksForFirst date s
    early date s unread g =
        elim (is_before_epoch date) as (λ b. is_before_epoch date ≡ b → AsksForFirst date s) [
          | true ↦ λ t. record { unread = λ u h. none-some _ (sym unread ∙ second_of-Reads date u h); early = t; first = sym (same_Some _ _ (rw t at g)) }
          | false ↦ λ t. absurd (none-some _ (rw t at g))
        ] refl

pub answer-asked_of : (text : List ℕ) (answer : Option ℕ) → IfSome answer (λ s. Asks text s) → ((s : ℕ) → Asks text s → answer ≡ Some s) → answer ≡ asked_of text
answer-asked_of text (Some s) asked exact = sym (asked_of-Asks text s asked)
answer-asked_of text None asked exact =
    elim (asked_of text) as (λ o. asked_of text ≡ o → None ≡ o) [
      | None ↦ λ e. refl
      | Some s ↦ λ e. exact s (Asks-asked_of text s e)
    ] refl
