-- What settings may hold at their keys, in words.
use Rattle.std.specs.Prelude.{ℕ, List, ◌++◌, codes}
use Rattle.std.specs.Fmt.{decimal}
use Rattle.service_settings.specs.Limits.{limits}
use Rattle.service_settings.specs.declared.fault.Key.{Key}
use Rattle.service_settings.specs.declared.fault.Key.TheVariants as key

-- the least and the greatest of a key
abbrev pub range_words : Key → List ℕ
range_words k = decimal (limits k).0 ++ codes " to " ++ decimal (limits k).1

-- a number within the limits of its key
abbrev pub number_words : Key → List ℕ
number_words k = codes "a number from " ++ range_words k

-- what a key may hold
abbrev pub holding_words : Key → List ℕ
holding_words key.Base = codes "a URL of http or https without a path"
holding_words key.Gates = range_words key.Gates ++ codes " texts IP:PORT"
holding_words key.Connections = number_words key.Connections
holding_words key.Rounds = number_words key.Rounds
holding_words key.Pause = number_words key.Pause
holding_words key.Workers = number_words key.Workers
holding_words key.Originals = range_words key.Originals ++ codes " addresses of http or https"
holding_words key.Peers = range_words key.Peers ++ codes " bases of http, by a name or an IPv4 address"
holding_words key.Archives = range_words key.Archives ++ codes " tables, each with a name of its own and a timemap of http"
holding_words key.Patience = number_words key.Patience
holding_words key.Hosts = range_words key.Hosts ++ codes " hosts"
holding_words key.Log = codes "true or false"
holding_words key.Walks = number_words key.Walks
holding_words key.AtOnce = number_words key.AtOnce ++ codes ", above 64 only where walks is set"
holding_words key.Tolerance = number_words key.Tolerance
holding_words key.Dormant = number_words key.Dormant
holding_words key.Walk = number_words key.Walk
holding_words key.Rate = number_words key.Rate
holding_words key.Again = number_words key.Again
holding_words key.AgainNone = number_words key.AgainNone
holding_words key.Ahead = number_words key.Ahead
holding_words key.Publish = number_words key.Publish
holding_words key.Pull = number_words key.Pull
holding_words key.Parts = number_words key.Parts
holding_words key.Agent = range_words key.Agent ++ codes " visible bytes of ASCII and blanks"
holding_words key.Ready = codes "true or false"
holding_words key.Wanted = number_words key.Wanted
holding_words key.Wishes = number_words key.Wishes
holding_words key.Alike = codes "true or false"
holding_words key.OriginalsFile = codes "a path of " ++ range_words key.OriginalsFile ++ codes " bytes"
holding_words key.Snapshot = codes "a path of " ++ range_words key.Snapshot ++ codes " bytes"
holding_words key.SnapshotEvery = number_words key.SnapshotEvery
holding_words key.Formats = range_words key.Formats ++ codes " of json and cdxj"
holding_words key.Status = codes "a text IP:PORT"
holding_words key.Together = number_words key.Together
holding_words key.Wait = number_words key.Wait ++ codes ", where wanted is set and together is 2 or more"
holding_words key.Forget = number_words key.Forget
holding_words key.WithdrawnFile = codes "a path of " ++ range_words key.WithdrawnFile ++ codes " bytes"
holding_words key.Most = number_words key.Most
