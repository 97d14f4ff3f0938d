-- What a call answers, from what it found of the archive.
use Rattle.std.proofs.Common.{◌≡◌, ℕ, ◌<◌, Bool, true, false, List, Some, length, get_or, ◌↔◌, IsTrue, if◌then◌else◌, slice_get, slice_set, refl, sym, ap, subst, ◌∙◌}
use Rattle.std.proofs.lemmas.List.{set-get_or}
use Rattle.std.proofs.lemmas.Option.{slice_get_read, same_Some}
use Rattle.std.proofs.lemmas.Bool.{true≢false, false≢true}
use Rattle.harvest_schedule.specs.declared.moods.Limits.{Limits}
use Rattle.harvest_schedule.specs.Standing.{Standing}
use Rattle.harvest_schedule.specs.Steps.{Act, Answers, Can, after_act}

read : (xs : List Standing) (archive : ℕ) (s : Standing) → archive < length xs → s ≡ get_or xs archive s → slice_get xs archive ≡ Some s
read xs archive s within is = slice_get_read xs (length xs) archive s refl within is

-- the lane of the archive answers for it
pub told : (b : Bool) (limits : Limits) (archive : ℕ) (act : Act) (xs : List Standing) (s next : Standing) → archive < length xs
    → s ≡ get_or xs archive s → (IsTrue b ↔ Can act s) → next ≡ (if b then after_act limits act s else s)
    → Answers limits archive act b xs (slice_set xs archive next)
told true limits archive act xs s next within is can after = record {
  yes = λ _. record {
    standing = s;
    at = read xs archive s within is;
    can = can.0 refl;
    standings = ap (slice_set xs archive) after;
  };
  no = λ e. absurd (true≢false e);
  same = λ e. absurd (true≢false e);
}
told false limits archive act xs s next within is can after = record {
  yes = λ e. absurd (false≢true e);
  no = λ _. λ found at can_it.
      false≢true (can.1 (subst (Can act) (same_Some found s (sym at ∙ read xs archive s within is)) can_it));
  same = λ _. ap (slice_set xs archive) (after ∙ is) ∙ set-get_or xs archive s;
}
