-- What calls of a course came to.
use Rattle.std.proofs.Common.{◌≡◌, ℕ, true, List, Option, Some, slice_get, subst}
use Rattle.harvest_schedule.specs.declared.turns.Turn.{Turn}
use Rattle.published_index.specs.Batches.{merges_of}
use Rattle.published_index.specs.Views.{MergerView}
use Rattle.replica_exchange.specs.Stamps.{state_after}
use Rattle.retention.specs.Rules.{Withdrawal}
use Rattle.forgetting.specs.Renewing.{is_withdrawn_by}
use Rattle.service_settings.specs.declared.archives.Archive.{Archive}
use Rattle.service_settings.specs.declared.settings.Settings.{Settings}
use Rattle.round_course.specs.Asking.{is_young_in}
use Rattle.round_course.specs.Permits.{IsKnownAt, IsWithdrawnAt}

-- what is published of the job of a turn is young enough, where all by which that is told is as before
pub known_at : (s t : Settings) (m n : MergerView) (xs ys : List (List ℕ)) (turn : Turn) (archive : Archive) (original : List ℕ) (second : ℕ)
    → s ≡ t → m ≡ n → xs ≡ ys → slice_get s.archives.items turn.archive ≡ Some archive → slice_get xs turn.original ≡ Some original
    → is_young_in s.timing (state_after (merges_of m.published)) (archive.name, original) second ≡ true → IsKnownAt t n ys turn
known_at s t m n xs ys turn archive original second settings merger list archive_at original_at young =
    subst (λ (it : Settings). IsKnownAt it n ys turn) settings
    (subst (λ (it : MergerView). IsKnownAt s it ys turn) merger
    (subst (λ (it : List (List ℕ)). IsKnownAt s m it turn) list (record {
      job = record { archive = archive; original = original; archive_at = archive_at; original_at = original_at };
      second = second;
      young = young;
    })))

-- what the job of a turn would bring is withdrawn, where all by which that is told is as before
pub withdrawn_at : (s t : Settings) (w : Option Withdrawal) (xs ys : List (List ℕ)) (turn : Turn) (archive : Archive) (original : List ℕ)
    → s ≡ t → xs ≡ ys → slice_get s.archives.items turn.archive ≡ Some archive → slice_get xs turn.original ≡ Some original
    → is_withdrawn_by w (archive.name, original) ≡ true → IsWithdrawnAt t w ys turn
withdrawn_at s t w xs ys turn archive original settings list archive_at original_at gone =
    subst (λ (it : Settings). IsWithdrawnAt it w ys turn) settings
    (subst (λ (it : List (List ℕ)). IsWithdrawnAt s w it turn) list (record {
      job = record { archive = archive; original = original; archive_at = archive_at; original_at = original_at };
      gone = gone;
    }))
