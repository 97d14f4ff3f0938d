use Rattle.std.proofs.Common.{refl}
use Rattle.service_settings.proofs.laws.peers_by_example.Goals as goal

pub returns : goal.returns
returns c = record { name = refl; address = refl; in_brackets = refl; by_https = refl }
