use Rattle.std.proofs.Common.{◌≡◌, ℕ, Bool, List, Result, Ok, Err, Some, None, true, false, ap, sym, ◌∙◌, refl, if◌then◌else◌, Bor}
use Rattle.std.specs.Prelude.{MatchResult, IsUtf8}
use Rattle.std.specs.Option.{option_map}
use Rattle.std.specs.Result.{result_ok}
use Rattle.std.specs.Str.{is_utf8}
use Rattle.std.proofs.lemmas.Str.{IsUtf8-from_is_utf8, is_utf8-from_IsUtf8}
use Rattle.replica_world.specs.Fields.{utf8_text}
use Rattle.replica_world.proofs.replaying.fields.utf8_text.Goals as goal

untrue : (b : Bool) → ¬ (b ≡ true) → b ≡ false
untrue true h = absurd (h refl)
untrue false h = refl

tested : (bytes : List ℕ) (is : Bool) → is_utf8 bytes ≡ is → utf8_text bytes ≡ (if is then Some bytes else None)
unfolding utf8_text
tested bytes is e = ap (λ (b : Bool). if b then Some bytes else None) e

read : {E : Type 0} (bytes : List ℕ) (found : Result (Bor (List ℕ)) E) (P : E → Type 0)
    → MatchResult found (λ s. (s.now ≡ bytes) × IsUtf8 bytes) (λ e. ¬ (IsUtf8 bytes) × P e)
    → option_map (λ s. s.now) (result_ok found) ≡ utf8_text bytes
read bytes (Ok s) P h = ap (λ (b : List ℕ). Some b) h.0 ∙ sym (tested bytes true (is_utf8-from_IsUtf8 bytes h.1))
read bytes (Err e) P h = sym (tested bytes false (untrue (is_utf8 bytes) (λ is. h.0 (IsUtf8-from_is_utf8 bytes is))))

pub returns : goal.returns
returns c = ap (λ o. option_map (λ s. s.now) o) c.ok.ensures.value ∙ read c.args.bytes.now c.from_utf8.result _ c.from_utf8.ensures.cases
