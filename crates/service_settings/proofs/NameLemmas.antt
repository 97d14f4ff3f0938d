-- Which texts are names of keys, and which keys of a table aren't looked at.
use Rattle.std.proofs.Common.{◌≡◌, ℕ, List, [], ◌∷◌, Bool}
use Rattle.std.proofs.Common.{true, false, not, ◌&&◌, ◌||◌, cond, is_some, Some, Option, Ordering, Less, Equal, Greater, is_eq, nat_cmp, bytes_eq, refl, sym, ap, ◌∙◌}
use Rattle.std.specs.Cmp.Lexicographic.{slice_cmp}
use Rattle.std.specs.Ordering.{match_ordering}
use Rattle.std.proofs.lemmas.Bool.{false≢true}
use Rattle.std.proofs.lemmas.Map.Text.{is_eq-slice_cmp}
use Rattle.std.proofs.lemmas.Slice.Eq.{bytes_eq-Decides}
use Rattle.toml.specs.Data.{Data, Members, no_members, member, get_member}
use Rattle.service_settings.specs.declared.fault.Key.{Key}
use Rattle.service_settings.specs.declared.fault.Key.TheVariants as key
use Rattle.service_settings.specs.declared.unknown.Place.{Place}
use Rattle.service_settings.specs.Keys.{all_keys, is_name, name_of, names_one}
use Rattle.service_settings.specs.Unknown.{is_among, is_known, unknown}

named_first : (text : List ℕ) (k : Key) (others b : Bool) → bytes_eq (name_of k) text ≡ b → (b || others) ≡ true
    → (others ≡ true → (k : Key) × (name_of k ≡ text)) → (k : Key) × (name_of k ≡ text)
named_first text k others true same named later = (k, (bytes_eq-Decides (name_of k) text).0 same)
named_first text k others false same named later = later named

names_one-of : (text : List ℕ) (ks : List Key) → names_one text ks ≡ true → (k : Key) × (name_of k ≡ text)
names_one-of text [] named = absurd (false≢true named)
names_one-of text (k ∷ ks) named = named_first text k (names_one text ks) (bytes_eq (name_of k) text) refl named (names_one-of text ks)

-- a text that is a name is that of a key
pub is_name-of : (text : List ℕ) → is_name text ≡ true → (k : Key) × (name_of k ≡ text)
unfolding is_name
is_name-of text named = names_one-of text all_keys named

-- and the name of a key is one
pub is_name-all : (k : Key) → is_name (name_of k) ≡ true
unfolding is_name
is_name-all key.Base = refl
is_name-all key.Gates = refl
is_name-all key.Connections = refl
is_name-all key.Rounds = refl
is_name-all key.Pause = refl
is_name-all key.Workers = refl
is_name-all key.Originals = refl
is_name-all key.Peers = refl
is_name-all key.Archives = refl
is_name-all key.Patience = refl
is_name-all key.Hosts = refl
is_name-all key.Log = refl
is_name-all key.Walks = refl
is_name-all key.AtOnce = refl
is_name-all key.Tolerance = refl
is_name-all key.Dormant = refl
is_name-all key.Walk = refl
is_name-all key.Rate = refl
is_name-all key.Again = refl
is_name-all key.AgainNone = refl
is_name-all key.Ahead = refl
is_name-all key.Publish = refl
is_name-all key.Pull = refl
is_name-all key.Parts = refl
is_name-all key.Agent = refl
is_name-all key.Ready = refl
is_name-all key.Wanted = refl
is_name-all key.Wishes = refl
is_name-all key.Alike = refl
is_name-all key.OriginalsFile = refl
is_name-all key.Snapshot = refl
is_name-all key.SnapshotEvery = refl
is_name-all key.Formats = refl
is_name-all key.Status = refl
is_name-all key.Together = refl
is_name-all key.Wait = refl
is_name-all key.Forget = refl
is_name-all key.WithdrawnFile = refl
is_name-all key.Most = refl

step : (known same some here among : Bool) → (same ≡ true → here ≡ known) → among ≡ (some && not here)
    → cond known among (same || among) ≡ ((same || some) && not here)
step true true true true among follows ih = ih
step true true false true among follows ih = ih
step true true some false among follows ih = absurd (false≢true (follows refl))
step true false some here among follows ih = ih
step false true some true among follows ih = absurd (false≢true (sym (follows refl)))
step false true some false among follows ih = refl
step false false some here among follows ih = ih

among_cond : (k l : List ℕ) (ls : List (List ℕ)) (b : Bool) → is_among k (cond b ls (l ∷ ls)) ≡ cond b (is_among k ls) (bytes_eq k l || is_among k ls)
among_cond k l ls true = refl
among_cond k l ls false = refl

found_or : (o : Ordering) (d : Data) (rest : Option Data) → is_some (match_ordering o rest (Some d) rest) ≡ (is_eq o || is_some rest)
found_or Less d rest = refl
found_or Equal d rest = refl
found_or Greater d rest = refl

-- a text is among the keys that aren't looked at, if it is a key and isn't known
pub among_unknown : (place : Place) (k : List ℕ) (ms : Members)
    → is_among k (unknown place ms) ≡ (is_some (get_member k ms) && not (is_known place k))
among_unknown place k no_members = refl
among_unknown place k (member l d ms) =
    let here = is_some (get_member k ms) in
    among_cond k l (unknown place ms) (is_known place l)
    ∙ (step (is_known place l) (bytes_eq k l) here (is_known place k) (is_among k (unknown place ms))
    (λ same. ap (is_known place) ((bytes_eq-Decides k l).0 same)) (among_unknown place k ms)
    ∙ ap (λ b. b && not (is_known place k)) (sym (found_or (slice_cmp nat_cmp k l) d (get_member k ms) ∙ ap (λ b. b || here) (is_eq-slice_cmp k l))))
