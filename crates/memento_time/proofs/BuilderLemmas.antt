-- One memento more in a builder, and the mementos that are built from it one by one.
use Rattle.std.proofs.Common.{◌≡◌, ℕ, ◌+◌, ◌<◌, ◌≤◌, ◌^◌, List, [], ◌∷◌, ◌++◌, length, take, drop, All, refl, sym, ap, subst, ◌∙◌, arith, get_or, length-append, append_assoc}
use Rattle.std.proofs.lemmas.List.{take-append-le, drop-append-le, length-drop, take_all, drop-drop, drop_more, nil_from_length}
use Rattle.std.proofs.lemmas.List.Elements.{All-append, All-cons, All-nil, All-head, All-tail}
use Rattle.memento_time.specs.Builder.{mementos_listed, total, IsBuilder}
use Rattle.memento_time.specs.Text.{IsClean}
use Rattle.memento_time.specs.declared.mementos.Memento.{Memento}

-- the memento has a clean address
abbrev HasAddress : Memento → Type 0
HasAddress m = IsClean m.uri

pub listed_push : (marks : List (ℕ × ℕ)) (bytes : List ℕ) (at : ℕ) (text : List ℕ) → total marks ≡ length bytes
    → mementos_listed (marks ++ (at, length text) ∷ []) (bytes ++ text) ≡ mementos_listed marks bytes ++ record { at = at; uri = text } ∷ []
listed_push [] bytes at text whole =
    let none = nil_from_length bytes (sym whole) in
    rw (none, take_all (length text) text (omega arith))
listed_push (mark ∷ marks) bytes at text whole =
    let le : mark.1 ≤ length bytes = omega arith in
    let rest : total marks ≡ length (drop mark.1 bytes) = omega (arith, length-drop mark.1 bytes) in
    let first : Memento = record { at = mark.0; uri = take mark.1 bytes } in
    rw (take-append-le mark.1 bytes text le, drop-append-le mark.1 bytes text le)
    (ap (λ ms. first ∷ ms) (listed_push marks (drop mark.1 bytes) at text rest))

total_push : (marks : List (ℕ × ℕ)) (mark : ℕ × ℕ) → total (marks ++ mark ∷ []) ≡ total marks + mark.1
total_push [] mark = omega arith
total_push (m ∷ marks) mark = omega (arith, total_push marks mark)

pub push_keeps : (marks : List (ℕ × ℕ)) (bytes : List ℕ) (at : ℕ) (text : List ℕ) → IsBuilder marks bytes → IsClean text
    → length text + length bytes < 2 ^ 32 → IsBuilder (marks ++ (at, length text) ∷ []) (bytes ++ text)
push_keeps marks bytes at text builder clean small = record {
  whole = total_push marks (at, length text) ∙ omega (arith, builder.whole, length-append bytes text);
  small = omega (arith, length-append bytes text);
  each = rw (listed_push marks bytes at text builder.whole)
      (All-append HasAddress (mementos_listed marks bytes) (record { at = at; uri = text } ∷ []) builder.each (All-cons HasAddress (record { at = at; uri = text }) [] clean (All-nil HasAddress)));
}

module _ (marks marks' : List (ℕ × ℕ)) (bytes bytes' : List ℕ) (at : ℕ) (text : List ℕ) (builder : IsBuilder marks bytes)
    (m : marks' ≡ marks ++ (at, length text) ∷ []) (b : bytes' ≡ bytes ++ text) where
  pub pushed : mementos_listed marks' bytes' ≡ mementos_listed marks bytes ++ record { at = at; uri = text } ∷ []
  pushed = rw (m, b) (listed_push marks bytes at text builder.whole)

  pub still_builder : IsClean text → length text + length bytes < 2 ^ 32 → IsBuilder marks' bytes'
  still_builder clean small = rw (m, b) (push_keeps marks bytes at text builder clean small)

later : (xs ys : List Memento) → All HasAddress (xs ++ ys) → All HasAddress ys
later [] ys h = h
later (x ∷ xs) ys h = later xs ys (All-tail HasAddress x (xs ++ ys) h)

-- the mementos from the k-th on stand from this byte on
pub record IsAt (marks : List (ℕ × ℕ)) (bytes : List ℕ) (k start : ℕ) (built : List Memento) : Type 0 where
  pub left : start + total (drop k marks) ≡ length bytes
  pub same : built ++ mementos_listed (drop k marks) (drop start bytes) ≡ mementos_listed marks bytes

pub starts : (marks : List (ℕ × ℕ)) (bytes : List ℕ) → IsBuilder marks bytes → IsAt marks bytes 0 0 []
starts marks bytes builder = record { left = omega (arith, builder.whole); same = refl }

module _ (marks : List (ℕ × ℕ)) (bytes : List ℕ) (builder : IsBuilder marks bytes) (k start : ℕ) (built : List Memento)
    (here : IsAt marks bytes k start built) (mark : ℕ × ℕ) (lt : k < length marks) (is : mark ≡ get_or marks k mark) where
  next : drop k marks ≡ mark ∷ drop (k + 1) marks
  next = drop_more marks k mark lt ∙ ap (λ m. m ∷ drop (k + 1) marks) (sym is)

  pub within : start + mark.1 ≤ length bytes
  within = let e = ap total next in omega (arith, e, here.left)

  parted : mementos_listed (drop k marks) (drop start bytes) ≡ record { at = mark.0; uri = take mark.1 (drop start bytes) } ∷ mementos_listed (drop (k + 1) marks) (drop (start + mark.1) bytes)
  parted = rw (next, drop-drop mark.1 start bytes)

  pub its_address : IsClean (take mark.1 (drop start bytes))
  its_address =
      All-head HasAddress _ (mementos_listed (drop (k + 1) marks) (drop (start + mark.1) bytes))
      (later built _ (subst (All HasAddress) (sym here.same ∙ ap (λ ms. built ++ ms) parted) builder.each))

  pub goes_on : IsAt marks bytes (k + 1) (start + mark.1) (built ++ record { at = mark.0; uri = take mark.1 (drop start bytes) } ∷ [])
  goes_on = record {
    left = let e = ap total next in omega (arith, e, here.left);
    same = append_assoc built _ _ ∙ ap (λ ms. built ++ ms) (sym parted) ∙ here.same;
  }
