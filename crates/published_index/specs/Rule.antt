-- The rule over the published copy and the views of all readers and of the writer, and its steps.
use Rattle.std.specs.Prelude.{◌≡◌, ℕ, List, true, fold}
use mathlib.Core.Option.{some}
use mathlib.Core.List.{IsPrefix}
use lib.ListN.{get_elem?}
use Rattle.published_index.specs.declared.editions.Edition.{Edition}
use Rattle.published_index.specs.declared.views.ReaderView.{ReaderView}
use Rattle.published_index.specs.declared.editions.Change.{Change}
use Rattle.published_index.specs.declared.marks.Mark.{Mark}
use Rattle.published_index.specs.Changes.{after_change, IsWhole, batches_of, book_of}
use Rattle.published_index.specs.Passes.{opening_of}

-- the copy is of the view's opening, and in its incarnation
abbrev pub IsOf : Edition → ReaderView → Type 0
IsOf x view = (view.opening ≡ opening_of (book_of x)) × (view.incarnation ≡ x.stamped.incarnation)

-- the copy's batches begin with the view's front, and the copy is of the view's opening
abbrev pub Covers : Edition → ReaderView → Type 0
Covers x view = IsPrefix view.front (batches_of x) × (view.named ≡ true → IsOf x view)

-- the copy is what its batches made, and it covers each view
abbrev pub Keeps : Edition → List ReaderView → Type 0
Keeps x views = IsWhole x × ((seat : ℕ) (view : ReaderView) → get_elem? views seat ≡ some view → Covers x view)

-- the view of the copy's opening whose front is all its batches
abbrev pub view_at : Edition → ReaderView
view_at x = record {
  named = true;
  opening = opening_of (book_of x);
  incarnation = x.stamped.incarnation;
  front = batches_of x;
}

-- an entry: the new front is the copy's batches
abbrev pub Enters : ReaderView → Edition → Edition → ReaderView → Type 0
Enters old x y new = (new ≡ view_at y) × IsWhole y × Covers y old

-- a publish: the writer knows what it shows
abbrev pub Shows : ReaderView → Edition → Edition → ReaderView → Type 0
Shows old x y new = new ≡ view_at y

-- who learns a note has the view that the note tells
abbrev pub view_of_note : ReaderView → ReaderView → ReaderView
view_of_note view note = note

-- y may be shown after x: it is of the same log and incarnation, its batches begin with those of x, and it is whole
-- where x was
pub record IsReady (x y : Edition) : Type 0 where
  pub book : book_of y ≡ book_of x
  pub incarnation : y.stamped.incarnation ≡ x.stamped.incarnation
  pub batches : IsPrefix (batches_of x) (batches_of y)
  pub whole : IsWhole x → IsWhole y

-- the changes make of x a copy with this mark, which may be shown after x
abbrev pub Offers : Edition → List Change → Mark → Type 0
Offers x changes mark = IsReady x (fold after_change x changes) × ((fold after_change x changes).mark ≡ mark)
