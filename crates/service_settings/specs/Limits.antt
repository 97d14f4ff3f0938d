-- How much settings may hold at their keys.
use Rattle.std.specs.Prelude.{ℕ, ◌≤◌, ◌+◌, ◌*◌, ◌^◌}
use Rattle.service_settings.specs.declared.fault.Key.{Key}
use Rattle.service_settings.specs.declared.fault.Key.TheVariants as key

-- the least and the greatest number at a key; for a list, of its elements; for the agent and paths, of their bytes. The
-- base and the status' address are one text. What may be `true` is wanted (1) or not.
abbrev pub limits : Key → ℕ × ℕ
limits key.Base = (1, 1)
limits key.Gates = (1, 64)
limits key.Connections = (1, 1000000000)
limits key.Rounds = (1, 1000000000)
limits key.Pause = (0, 86400)
limits key.Workers = (1, 64)
limits key.Originals = (0, 100000)
limits key.Peers = (0, 15)
limits key.Archives = (0, 1000)
limits key.Patience = (1, 86400)
limits key.Hosts = (0, 1000)
limits key.Log = (0, 1)
limits key.Walks = (1, 1000)
limits key.AtOnce = (1, 1000)
limits key.Tolerance = (1, 1000000000)
limits key.Dormant = (1, 86400)
limits key.Walk = (1, 86400)
limits key.Rate = (1, 1000000)
limits key.Again = (1, 2592000)
limits key.AgainNone = (1, 2592000)
limits key.Ahead = (1, 2592000)
limits key.Publish = (1, 86400)
limits key.Pull = (1, 86400)
limits key.Parts = (1, 128)
limits key.Agent = (1, 256)
limits key.Ready = (0, 1)
limits key.Wanted = (0, 1000000)
limits key.Wishes = (1, 60000)
limits key.Alike = (0, 1)
limits key.OriginalsFile = (1, 4096)
limits key.Snapshot = (1, 4096)
limits key.SnapshotEvery = (1, 86400)
limits key.Formats = (0, 2)
limits key.Status = (1, 1)
limits key.Together = (1, 256)
limits key.Wait = (1, 60)
limits key.Forget = (1, 86400)
limits key.WithdrawnFile = (1, 4096)
limits key.Most = (1, 1000000000)

-- the most milliseconds between two requests of one archive
abbrev pub most_every : ℕ
most_every = 3600000

-- the number is neither below the least of a key nor above the greatest
abbrev pub IsWithin : Key → ℕ → Type 0
IsWithin k n = ((limits k).0 ≤ n) × (n ≤ (limits k).1)

-- a key takes so much, and no more
abbrev pub TakesUpTo : Key → ℕ → Type 0
TakesUpTo k most = IsWithin k most × (¬ IsWithin k (most + 1))

-- Worked examples, on both sides of each limit. With 15 peers there are 16 replicas, as many as a script has; a pause
-- and a patience are a day at most.
pub record AreLimits : Type 0 where
  pub no_gate : ¬ IsWithin key.Gates 0
  pub a_gate : IsWithin key.Gates 1
  pub gates : TakesUpTo key.Gates (2 ^ 6)
  pub no_connection : ¬ IsWithin key.Connections 0
  pub a_connection : IsWithin key.Connections 1
  pub connections : TakesUpTo key.Connections (10 ^ 9)
  pub no_round : ¬ IsWithin key.Rounds 0
  pub a_round : IsWithin key.Rounds 1
  pub rounds : TakesUpTo key.Rounds (10 ^ 9)
  pub no_pause : IsWithin key.Pause 0
  pub pause : TakesUpTo key.Pause (24 * 60 * 60)
  pub no_worker : ¬ IsWithin key.Workers 0
  pub a_worker : IsWithin key.Workers 1
  pub workers : TakesUpTo key.Workers (2 ^ 6)
  pub no_original : IsWithin key.Originals 0
  pub originals : TakesUpTo key.Originals (10 ^ 5)
  pub no_peer : IsWithin key.Peers 0
  pub peers : TakesUpTo key.Peers 15
  pub no_archive : IsWithin key.Archives 0
  pub archives : TakesUpTo key.Archives (10 ^ 3)
  pub no_patience : ¬ IsWithin key.Patience 0
  pub a_patience : IsWithin key.Patience 1
  pub patience : TakesUpTo key.Patience (24 * 60 * 60)
  pub no_host : IsWithin key.Hosts 0
  pub hosts : TakesUpTo key.Hosts (10 ^ 3)
  pub no_log : IsWithin key.Log 0
  pub log : TakesUpTo key.Log 1
  pub no_walk_at_once : ¬ IsWithin key.Walks 0
  pub a_walk_at_once : IsWithin key.Walks 1
  pub walks : TakesUpTo key.Walks (10 ^ 3)
  pub none_at_once : ¬ IsWithin key.AtOnce 0
  pub one_at_once : IsWithin key.AtOnce 1
  pub at_once : TakesUpTo key.AtOnce (10 ^ 3)
  pub no_tolerance : ¬ IsWithin key.Tolerance 0
  pub a_tolerance : IsWithin key.Tolerance 1
  pub tolerance : TakesUpTo key.Tolerance (10 ^ 9)
  pub no_dormant : ¬ IsWithin key.Dormant 0
  pub a_dormant : IsWithin key.Dormant 1
  pub dormant : TakesUpTo key.Dormant (24 * 60 * 60)
  pub no_walk : ¬ IsWithin key.Walk 0
  pub a_walk : IsWithin key.Walk 1
  pub walk : TakesUpTo key.Walk (24 * 60 * 60)
  pub no_rate : ¬ IsWithin key.Rate 0
  pub a_rate : IsWithin key.Rate 1
  pub rate : TakesUpTo key.Rate (10 ^ 6)
  pub no_again : ¬ IsWithin key.Again 0
  pub an_again : IsWithin key.Again 1
  pub again : TakesUpTo key.Again (30 * 24 * 60 * 60)
  pub no_again_none : ¬ IsWithin key.AgainNone 0
  pub an_again_none : IsWithin key.AgainNone 1
  pub again_none : TakesUpTo key.AgainNone (30 * 24 * 60 * 60)
  pub no_ahead : ¬ IsWithin key.Ahead 0
  pub an_ahead : IsWithin key.Ahead 1
  pub ahead : TakesUpTo key.Ahead (30 * 24 * 60 * 60)
  pub no_publish : ¬ IsWithin key.Publish 0
  pub a_publish : IsWithin key.Publish 1
  pub publish : TakesUpTo key.Publish (24 * 60 * 60)
  pub no_pull : ¬ IsWithin key.Pull 0
  pub a_pull : IsWithin key.Pull 1
  pub pull : TakesUpTo key.Pull (24 * 60 * 60)
  pub no_parts : ¬ IsWithin key.Parts 0
  pub a_part : IsWithin key.Parts 1
  pub parts : TakesUpTo key.Parts 128
  pub no_agent : ¬ IsWithin key.Agent 0
  pub an_agent : IsWithin key.Agent 1
  pub agent : TakesUpTo key.Agent (2 ^ 8)
  pub not_ready : IsWithin key.Ready 0
  pub ready : TakesUpTo key.Ready 1
  pub none_wanted : IsWithin key.Wanted 0
  pub wanted : TakesUpTo key.Wanted (10 ^ 6)
  pub no_wish : ¬ IsWithin key.Wishes 0
  pub a_wish : IsWithin key.Wishes 1
  pub wishes : TakesUpTo key.Wishes (60 * 10 ^ 3)
  pub not_alike : IsWithin key.Alike 0
  pub alike : TakesUpTo key.Alike 1
  pub no_originals_file : ¬ IsWithin key.OriginalsFile 0
  pub an_originals_file : IsWithin key.OriginalsFile 1
  pub originals_file : TakesUpTo key.OriginalsFile (2 ^ 12)
  pub no_snapshot : ¬ IsWithin key.Snapshot 0
  pub a_snapshot : IsWithin key.Snapshot 1
  pub snapshot : TakesUpTo key.Snapshot (2 ^ 12)
  pub no_snapshot_every : ¬ IsWithin key.SnapshotEvery 0
  pub a_snapshot_every : IsWithin key.SnapshotEvery 1
  pub snapshot_every : TakesUpTo key.SnapshotEvery (24 * 60 * 60)
  pub no_format : IsWithin key.Formats 0
  pub formats : TakesUpTo key.Formats 2
  pub none_together : ¬ IsWithin key.Together 0
  pub one_together : IsWithin key.Together 1
  pub together : TakesUpTo key.Together (2 ^ 8)
  pub no_wait : ¬ IsWithin key.Wait 0
  pub a_wait : IsWithin key.Wait 1
  pub wait : TakesUpTo key.Wait 60
  pub no_forget : ¬ IsWithin key.Forget 0
  pub a_forget : IsWithin key.Forget 1
  pub forget : TakesUpTo key.Forget (24 * 60 * 60)
  pub no_withdrawn_file : ¬ IsWithin key.WithdrawnFile 0
  pub a_withdrawn_file : IsWithin key.WithdrawnFile 1
  pub withdrawn_file : TakesUpTo key.WithdrawnFile (2 ^ 12)
  pub none_at_most : ¬ IsWithin key.Most 0
  pub one_at_most : IsWithin key.Most 1
  pub most : TakesUpTo key.Most (10 ^ 9)
