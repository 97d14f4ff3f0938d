use Rattle.std.proofs.Common.{◌≡◌, ℕ, List, true, refl, Ok, Some, None, inl, inr}
use Rattle.std.specs.Prelude.{IsUtf8}
use Rattle.std.specs.Str.{is_utf8}
use Rattle.std.proofs.lemmas.Bool.{cases_Bool}
use Rattle.std.proofs.lemmas.Str.{IsUtf8-from_is_utf8, is_utf8-from_IsUtf8}
use Rattle.memento_time.proofs.CleanLemmas.{clean_utf8}
use Rattle.timemap_reader.specs.Original.{original_reading}
use Rattle.url_texts.specs.Followed.{IsFollowed}
use Rattle.timegate.specs.Route.{IsAsked, original_at}
use Rattle.timegate.proofs.route.original_at.Goals as goal

not_text : (bytes : List ℕ) → ¬ IsUtf8 bytes → None ≡ original_at bytes
not_text bytes other =
    elim (cases_Bool (is_utf8 bytes)) [
      | inl is ↦ absurd (other (IsUtf8-from_is_utf8 bytes is))
      | inr is ↦ rw is refl
    ]

named : (bytes text original : List ℕ) → text ≡ bytes → IsUtf8 bytes → original_reading text ≡ Ok original → Some original ≡ original_at bytes
named bytes text original same utf8 reading =
    let is : is_utf8 bytes ≡ true = is_utf8-from_IsUtf8 bytes utf8 in
    rw (is, ← same, reading) refl

pub returns-in_default-clause-read : goal.returns-in_default-clause-read
returns-in_default-clause-read c = not_text c.args.bytes.now c.in_default.ensures.cases.0

pub returns-in-Ok-read_original-clause-read : goal.returns-in-Ok-read_original-clause-read
returns-in-Ok-read_original-clause-read c = named c.args.bytes.now c.in-Ok.text.now c.in-Ok-read_original.original c.in-Ok.ensures.cases.0 c.in-Ok.ensures.cases.1 c.in-Ok-read_original.ensures.read

-- an original is text
itself : (original : List ℕ) → IsUtf8 original → original_reading original ≡ Ok original → IsFollowed original → IsAsked original
itself original utf8 reading followed = record { itself = rw (is_utf8-from_IsUtf8 original utf8, reading) refl; followed = followed }

pub returns-in-Ok-read_original-clause-kept : goal.returns-in-Ok-read_original-clause-kept
returns-in-Ok-read_original-clause-kept c =
    let read = c.in-Ok-read_original.ensures in
    itself c.in-Ok-read_original.original (clean_utf8 c.in-Ok-read_original.original read.valid.0) read.kept read.followed
