use Rattle.std.proofs.Common.{refl}
use Rattle.service_status.proofs.ExampleLemmas.{kinds_fit, version_example, archives_example, walks_example, peers_example, pulls_example, replies_example}
use Rattle.service_status.proofs.ExampleLemmas.{wishes_example, snapshots_example, no_snapshots_example, room_example, list_example, forgetting_example}
use Rattle.service_status.proofs.ExampleLemmas.{entries_example, parts_example, known_example}
use Rattle.std.specs.Fmt.{digits}
use Rattle.service_status.specs.Metrics.{name_of, help_of, kind_of}
use Rattle.service_status.specs.Replies.{reply_of}
use Rattle.service_status.proofs.laws.texts_by_example.Goals as goal

pub returns : goal.returns
unfolding name_of help_of kind_of reply_of digits
returns c = record {
  plain = refl;
  labelled = refl;
  escapes = refl;
  rounds = λ s is. rw is refl;
  publishes = λ s is. rw is refl;
  kinds = kinds_fit;
  version = version_example;
  archives = archives_example;
  walks = walks_example;
  peers = peers_example;
  pulls = pulls_example;
  replies = replies_example;
  wishes = wishes_example;
  snapshots = snapshots_example;
  no_snapshots = no_snapshots_example;
  room = room_example;
  list = list_example;
  forgetting = forgetting_example;
  entries = entries_example;
  parts = parts_example;
  known = known_example;
  healthy = λ s is. rw is refl;
  early_health = λ s is. rw is refl;
  head = λ s. refl;
  elsewhere = λ s. refl;
  posted = λ s. refl;
}
