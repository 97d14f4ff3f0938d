-- The log of publishes. A publish notes its batch before the batch is shown, and its success once it is.
use Rattle.std.specs.Prelude.{◌≡◌, ◌==◌, ℕ, List, [], ◌∷◌, ◌++◌, length, true, MatchBool}
use Rattle.logbook.specs.Pages.{Cell, Step, View, Book, Named}
use Rattle.published_index.specs.declared.marks.LogEntry.{LogEntry}
use Rattle.published_index.specs.declared.marks.LogEntry.TheVariants.{Attempt, Success}
use Rattle.published_index.specs.Batches.{Batch}

-- the batches that were published: an attempt that no success follows published nothing
abbrev pub successes : List LogEntry → List Batch
successes [] = []
successes (Success ∷ log) = successes log
successes (Attempt b ∷ []) = []
successes (Attempt b ∷ Success ∷ log) = b ∷ successes log
successes (Attempt b ∷ Attempt c ∷ log) = successes (Attempt c ∷ log)

-- the batches that were published, the last attempt counted as a success
abbrev pub successes_with_last : List LogEntry → List Batch
successes_with_last log = successes (log ++ Success ∷ [])

-- the first word is the length of the log. A book has two words, of which this one leaves the second at 0
abbrev pub Counts : List Cell → List LogEntry → Type 0
Counts cells log = cells ≡ (length log, true) ∷ (0, true) ∷ []

-- the word that counts the entries of this book
abbrev pub head_of : Book → Named
head_of b = record { tracked = true; key = 0; book = b }

-- the entry was added behind all that had been seen, or the log was longer
abbrev pub Adds : Step LogEntry → View LogEntry ℕ → ℕ → View LogEntry ℕ → Type 0
Adds s v found w = MatchBool (found == s.old) (w.0 ≡ v.0 ++ s.ask ∷ []) (Unit {0})
