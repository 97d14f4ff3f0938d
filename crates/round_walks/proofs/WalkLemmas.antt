-- What became of what walks brought.
use Rattle.std.proofs.Common.{◌≡◌, Bool, Result, Ok, sym, subst}
use Rattle.harvest_lattice.specs.Knowledge.{Harvested}
use Rattle.harvester.specs.declared.faults.WalkFault.{WalkFault}
use Rattle.published_index.specs.Views.{MergerView}
use Rattle.forgetting.specs.declared.standing.Forgetting.{Forgetting}
use Rattle.service_settings.specs.declared.settings.Settings.{Settings}
use Rattle.round_walks.specs.declared.fates.Fate.{Fate}
use Rattle.round_walks.specs.Fates.{Becomes, IsTakenIn, grounds_of}

-- the harvest of a walk became this, where all by which that is decided was as before
pub taken_in : (r : Result Harvested WalkFault) (h : Harvested) (s t : Settings) (a b f : Forgetting) (is_wished : Bool) (m k n : MergerView) (fate : Fate)
    → r ≡ Ok h → t ≡ s → b ≡ a → k ≡ m → Becomes fate (grounds_of t b is_wished f) h k n → IsTakenIn r (grounds_of s a is_wished f) m n
taken_in r h s t a b f is_wished m k n fate came settings forgetting merger becomes =
    subst (λ (it : Result Harvested WalkFault). IsTakenIn it (grounds_of s a is_wished f) m n) (sym came) (
      fate,
      subst (λ (it : Settings). Becomes fate (grounds_of it a is_wished f) h m n) settings
          (subst (λ (it : Forgetting). Becomes fate (grounds_of t it is_wished f) h m n) forgetting
          (subst (λ (it : MergerView). Becomes fate (grounds_of t b is_wished f) h it n) merger becomes)),
    )
