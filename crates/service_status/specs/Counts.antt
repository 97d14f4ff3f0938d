-- What is counted by how it ended: one more of it, and the counts as rows of a word and a number.
use Rattle.std.specs.Prelude.{ℕ, ◌+◌, ◌-◌, ◌^◌, min, List, [], ◌∷◌, codes}
use Rattle.service_status.specs.declared.counts.WalkEnd.{WalkEnd}
use Rattle.service_status.specs.declared.counts.WalkEnd.TheVariants as walk
use Rattle.service_status.specs.declared.counts.WalkCounts.{WalkCounts}
use Rattle.service_status.specs.declared.counts.PullEnd.{PullEnd}
use Rattle.service_status.specs.declared.counts.PullEnd.TheVariants as pull
use Rattle.service_status.specs.declared.counts.PullCounts.{PullCounts}
use Rattle.service_status.specs.declared.counts.ReplyCounts.{ReplyCounts}
use Rattle.service_status.specs.declared.counts.WishCounts.{WishCounts}
use Rattle.service_status.specs.declared.counts.EntryCounts.{EntryCounts}

-- one more, as far as 64 bits can count
abbrev pub one_more : ℕ → ℕ
one_more n = min (n + 1) (2 ^ 64 - 1)

-- no reply was counted
abbrev pub no_replies : ReplyCounts
no_replies = record { ok = 0; found = 0; bad = 0; absent = 0; method = 0; refused = 0; other = 0 }

-- one walk more that ended so
abbrev pub with_walk : WalkEnd → WalkCounts → WalkCounts
with_walk walk.Whole c = record c { whole = one_more c.whole }
with_walk walk.Part c = record c { part = one_more c.part }
with_walk walk.Busy c = record c { busy = one_more c.busy }
with_walk walk.NoAnswer c = record c { no_answer = one_more c.no_answer }
with_walk walk.TooLong c = record c { too_long = one_more c.too_long }
with_walk walk.Status c = record c { status = one_more c.status }
with_walk walk.Encoded c = record c { encoded = one_more c.encoded }
with_walk walk.NoPage c = record c { no_page = one_more c.no_page }
with_walk walk.TooManyPages c = record c { too_many_pages = one_more c.too_many_pages }
with_walk walk.TooManyMementos c = record c { too_many_mementos = one_more c.too_many_mementos }
with_walk walk.NoMemory c = record c { no_memory = one_more c.no_memory }

-- one pull more that ended so
abbrev pub with_pull : PullEnd → PullCounts → PullCounts
with_pull pull.News c = record c { news = one_more c.news }
with_pull pull.NoNews c = record c { no_news = one_more c.no_news }
with_pull pull.NoAnswer c = record c { no_answer = one_more c.no_answer }
with_pull pull.Status c = record c { status = one_more c.status }
with_pull pull.NoDelta c = record c { no_delta = one_more c.no_delta }
with_pull pull.Gap c = record c { gap = one_more c.gap }
with_pull pull.NoMemory c = record c { no_memory = one_more c.no_memory }

-- so many, as far as 64 bits can count
abbrev pub capped_count : ℕ → ℕ
capped_count n = min n (2 ^ 64 - 1)

-- so many wishes more
abbrev pub with_wishes : WishCounts → WishCounts → WishCounts
with_wishes more c = record {
  granted = capped_count (c.granted + more.granted);
  ended = capped_count (c.ended + more.ended);
  turned_away = capped_count (c.turned_away + more.turned_away);
  late = capped_count (c.late + more.late);
}

-- so many entries more
abbrev pub with_entries : EntryCounts → EntryCounts → EntryCounts
with_entries more c = record { taken = capped_count (c.taken + more.taken); left = capped_count (c.left + more.left) }

-- a word for how something ended, and how often it did
abbrev pub Row : Type 0
Row = List ℕ × ℕ

unfoldable pub walk_rows : WalkCounts → List Row
walk_rows c =
    (codes "whole", c.whole) ∷ (codes "part", c.part) ∷ (codes "busy", c.busy) ∷ (codes "no_answer", c.no_answer)
    ∷ (codes "too_long", c.too_long)
    ∷ (codes "status", c.status) ∷ (codes "encoded", c.encoded) ∷ (codes "no_page", c.no_page)
    ∷ (codes "too_many_pages", c.too_many_pages) ∷ (codes "too_many_mementos", c.too_many_mementos)
    ∷ (codes "no_memory", c.no_memory) ∷ []

unfoldable pub pull_rows : PullCounts → List Row
pull_rows c =
    (codes "news", c.news) ∷ (codes "no_news", c.no_news) ∷ (codes "no_answer", c.no_answer) ∷ (codes "status", c.status)
    ∷ (codes "no_delta", c.no_delta) ∷ (codes "gap", c.gap) ∷ (codes "no_memory", c.no_memory) ∷ []

unfoldable pub reply_rows : ReplyCounts → List Row
reply_rows c =
    (codes "200", c.ok) ∷ (codes "302", c.found) ∷ (codes "400", c.bad) ∷ (codes "404", c.absent)
    ∷ (codes "405", c.method) ∷ (codes "503", c.refused) ∷ (codes "other", c.other) ∷ []

unfoldable pub wish_rows : WishCounts → List Row
wish_rows c =
    (codes "granted", c.granted) ∷ (codes "ended", c.ended) ∷ (codes "turned_away", c.turned_away)
    ∷ (codes "late", c.late) ∷ []

unfoldable pub entry_rows : EntryCounts → List Row
entry_rows c = (codes "taken", c.taken) ∷ (codes "left", c.left) ∷ []
