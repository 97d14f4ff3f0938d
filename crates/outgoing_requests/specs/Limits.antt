-- What a fetch keeps to beyond its patience.
use Rattle.std.specs.Prelude.{◌≡◌, ℕ, ◌+◌, ◌*◌, ◌^◌, ◌==◌, Option, None, Some, unwrap_or, IfSome, if◌then◌else◌}
use Rattle.std.specs.declared.time.Instant.{Instant}
use Rattle.std.specs.Time.{instant_nanos}

-- how many nanoseconds a second and a millisecond have
abbrev pub second_nanos : ℕ
second_nanos = 10 ^ 9

abbrev pub millisecond_nanos : ℕ
millisecond_nanos = 10 ^ 6

-- The end of a walk that may take so many seconds, if that is a time which the clock can show.
abbrev pub IsEnd : Option ℕ → Instant → Option Instant → Type 0
IsEnd None begun end = end ≡ None
IsEnd (Some seconds) begun end = IfSome end (λ t. instant_nanos t ≡ instant_nanos begun + seconds * second_nanos)

-- the nanoseconds before a page: none before the first
abbrev pub pause_before : Option ℕ → ℕ → ℕ
pause_before every tried = if tried == 0 then 0 else unwrap_or every 0 * millisecond_nanos
