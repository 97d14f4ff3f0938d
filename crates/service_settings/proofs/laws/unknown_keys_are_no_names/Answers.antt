use Rattle.std.proofs.Common.{◌≡◌, ℕ, List, true, subst}
use Rattle.service_settings.specs.Keys.{is_name}
use Rattle.service_settings.proofs.NameLemmas.{among_unknown, is_name-all, is_name-of}
use Rattle.service_settings.proofs.laws.unknown_keys_are_no_names.Goals as goal

pub returns : goal.returns
returns c = record {
  names = λ text. (is_name-of text, λ named. subst (λ (t : List ℕ). is_name t ≡ true) named.1 (is_name-all named.0));
  unknown = λ place members text. among_unknown place text members;
}
