-- Which revision a walk has.
use Rattle.std.specs.Prelude.{◌≡◌, ℕ, ◌<◌, ◌≤◌, Bool, true, false, ◌||◌, None, IsSome, is_some}
use Rattle.service_settings.specs.declared.settings.Settings.{Settings}

-- when a walk was handed out: in which second, and in which second the last round before it began
pub record HandOut : Type 0 where
  pub round : ℕ
  pub second : ℕ

-- whether walks are handed out that a round doesn't need: where readers' wishes are walked too, or rounds pass over
-- what is known
abbrev pub have_their_own : Settings → Bool
have_their_own settings = is_some settings.timing.again || is_some settings.wishing.wanted

abbrev pub revision_by : Bool → HandOut → ℕ
revision_by true it = it.second
revision_by false it = it.round

-- the revision of a walk that was handed out so
abbrev pub revision_of : Settings → HandOut → ℕ
revision_of settings it = revision_by (have_their_own settings) it

-- the first was handed out before the second, and the clock didn't go back meanwhile
pub record IsBefore (first second : HandOut) : Type 0 where
  pub round : first.round ≤ second.round
  pub second_is : first.second ≤ second.second

-- What is handed out later has no smaller revision. Where wishes are taken, what is handed out in a later second has a
-- greater one, whether a round or a wish asks for it.
pub record LaterWins : Type 0 where
  pub no_smaller : (settings : Settings) (first second : HandOut) → IsBefore first second
      → revision_of settings first ≤ revision_of settings second
  pub greater : (settings : Settings) (first second : HandOut) → IsSome settings.wishing.wanted
      → first.second < second.second → revision_of settings first < revision_of settings second

-- worked examples: a round began in the second 100, and a walk is handed out in the second 107
pub record AreRevisions : Type 0 where
  pub of_the_round : (settings : Settings) → settings.timing.again ≡ None → settings.wishing.wanted ≡ None
      → revision_of settings (record { round = 100; second = 107 }) ≡ 100
  pub with_wishes : (settings : Settings) → settings.timing.again ≡ None → IsSome settings.wishing.wanted
      → revision_of settings (record { round = 100; second = 107 }) ≡ 107
  pub with_again : (settings : Settings) → IsSome settings.timing.again → settings.wishing.wanted ≡ None
      → revision_of settings (record { round = 100; second = 107 }) ≡ 107
