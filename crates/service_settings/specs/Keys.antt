-- The keys of settings.
use Rattle.std.specs.Prelude.{ℕ, List, [], ◌∷◌, Bool, false, ◌||◌, bytes_eq, codes}
use Rattle.service_settings.specs.declared.fault.Key.{Key}
use Rattle.service_settings.specs.declared.fault.Key.TheVariants as key

-- a key of the settings as it is written
abbrev pub name_of : Key → List ℕ
name_of key.Base = codes "base"
name_of key.Gates = codes "gates"
name_of key.Connections = codes "connections"
name_of key.Rounds = codes "rounds"
name_of key.Pause = codes "pause"
name_of key.Workers = codes "workers"
name_of key.Originals = codes "originals"
name_of key.Peers = codes "peers"
name_of key.Archives = codes "archives"
name_of key.Patience = codes "patience"
name_of key.Hosts = codes "hosts"
name_of key.Log = codes "log"
name_of key.Walks = codes "walks"
name_of key.AtOnce = codes "at_once"
name_of key.Tolerance = codes "tolerance"
name_of key.Dormant = codes "dormant"
name_of key.Walk = codes "walk"
name_of key.Rate = codes "rate"
name_of key.Again = codes "again"
name_of key.AgainNone = codes "again_none"
name_of key.Ahead = codes "ahead"
name_of key.Publish = codes "publish"
name_of key.Pull = codes "pull"
name_of key.Parts = codes "parts"
name_of key.Agent = codes "agent"
name_of key.Ready = codes "ready"
name_of key.Wanted = codes "wanted"
name_of key.Wishes = codes "wishes"
name_of key.Alike = codes "alike"
name_of key.OriginalsFile = codes "originals_file"
name_of key.Snapshot = codes "snapshot"
name_of key.SnapshotEvery = codes "snapshot_every"
name_of key.Formats = codes "formats"
name_of key.Status = codes "status"
name_of key.Together = codes "together"
name_of key.Wait = codes "wait"
name_of key.Forget = codes "forget"
name_of key.WithdrawnFile = codes "withdrawn_file"
name_of key.Most = codes "most"

-- all keys, in the order in which they are looked for
abbrev pub all_keys : List Key
all_keys =
    key.Base ∷ key.Gates ∷ key.Connections ∷ key.Rounds ∷ key.Pause ∷ key.Workers ∷ key.Originals ∷ key.Peers ∷
    key.Archives ∷ key.Patience ∷ key.Hosts ∷ key.Log ∷ key.Walks ∷ key.AtOnce ∷ key.Tolerance ∷ key.Dormant ∷
    key.Walk ∷ key.Rate ∷ key.Again ∷ key.AgainNone ∷ key.Ahead ∷ key.Publish ∷ key.Pull ∷ key.Parts ∷ key.Agent ∷
    key.Ready ∷ key.Wanted ∷ key.Wishes ∷ key.Alike ∷ key.OriginalsFile ∷ key.Snapshot ∷ key.SnapshotEvery ∷ key.Formats ∷
    key.Status ∷ key.Together ∷ key.Wait ∷ key.Forget ∷ key.WithdrawnFile ∷ key.Most ∷ []

-- the text is the name of one of these keys
abbrev pub names_one : List ℕ → List Key → Bool
names_one text [] = false
names_one text (k ∷ ks) = bytes_eq (name_of k) text || names_one text ks

-- the text is the name of a key
unfoldable pub is_name : List ℕ → Bool
is_name text = names_one text all_keys
