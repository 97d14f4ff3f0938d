-- What counts as a failure of an archive.
use Rattle.std.proofs.Common.{◌≡◌, ◌≢◌, ℕ, ◌+◌, ◌*◌, ◌<◌, ◌≤◌, ◌^◌, ◌==◌, ◌||◌, Bool, true, false, nat_le, Option, Some, None, Result, Ok, Err, if◌then◌else◌, refl, sym, arith}
use Rattle.std.proofs.lemmas.Bool.Decides.{nat_tests}
use Rattle.std.proofs.lemmas.Bool.{true≢false}
use Rattle.harvest_lattice.specs.Knowledge.{Harvested}
use Rattle.harvest_schedule.specs.declared.moods.Verdict.{Verdict}
use Rattle.harvest_schedule.specs.declared.moods.Verdict.TheVariants.{There, Failed}
use Rattle.harvester.specs.declared.faults.FetchFault.{FetchFault}
use Rattle.harvester.specs.declared.faults.WalkFault.{WalkFault}
use Rattle.harvester.specs.declared.faults.WalkFault.TheVariants.{Fetch, Status, Encoded, Page, TooManyPages}
use Rattle.harvester.specs.declared.faults.WalkFault.TheVariants.{TooManyMementos, NoMemory}
use Rattle.harvest_workers.specs.declared.errands.Errand.{Errand}
use Rattle.harvest_workers.specs.declared.errands.Errand.TheVariants.{Round, Wish}
use Rattle.harvest_workers.specs.Verdicts.{AreFair, Counts, WaitsUntil, is_failure, seconds_after, verdict}

wish_counts : (archive now : ℕ) (asked : Option ℕ) (walked : Result Harvested WalkFault) → Counts (verdict (Wish archive) now asked walked)
    → walked ≡ Err (Fetch FetchFault.Failed)
wish_counts archive now (Some seconds) walked counts = absurd counts
wish_counts archive now None (Ok harvest) counts = absurd counts
wish_counts archive now None (Err (Fetch FetchFault.Failed)) counts = refl
wish_counts archive now None (Err (Fetch FetchFault.Broken)) counts = absurd counts
wish_counts archive now None (Err (Fetch FetchFault.TooLong)) counts = absurd counts
wish_counts archive now None (Err (Fetch FetchFault.NoMemory)) counts = absurd counts
wish_counts archive now None (Err (Status status)) counts = absurd counts
wish_counts archive now None (Err Encoded) counts = absurd counts
wish_counts archive now None (Err (Page fault)) counts = absurd counts
wish_counts archive now None (Err TooManyPages) counts = absurd counts
wish_counts archive now None (Err TooManyMementos) counts = absurd counts
wish_counts archive now None (Err NoMemory) counts = absurd counts

none_of : (a b c : Bool) → a ≡ false → b ≡ false → c ≡ false → (a || b || c) ≡ false
none_of true b c e f g = absurd (true≢false e)
none_of false true c e f g = absurd (true≢false f)
none_of false false true e f g = absurd (true≢false g)
none_of false false false e f g = refl

there_by : (b : Bool) → b ≡ false → (if b then Failed else There) ≡ There
there_by true e = absurd (true≢false e)
there_by false e = refl

no_failure : (status : ℕ) → status < 500 → status ≢ 408 → status ≢ 429 → is_failure status ≡ false
no_failure status small slow many =
    none_of (nat_le 500 status) (status == 408) (status == 429) (grind (arith, nat_tests, small)) (grind (arith, nat_tests, slow)) (grind (arith, nat_tests, many))

shown : (errand : Errand) (now status : ℕ) → status < 500 → status ≢ 408 → status ≢ 429 → verdict errand now None (Err (Status status)) ≡ There
shown (Round turn) now status small slow many = there_by (is_failure status) (no_failure status small slow many)
shown (Wish archive) now status small slow many = refl

waited : (errand : Errand) (now seconds : ℕ) (walked : Result Harvested WalkFault) → now + seconds * 1000 < 2 ^ 64
    → WaitsUntil (now + seconds * 1000) (verdict errand now (Some seconds) walked)
waited (Round turn) now seconds walked small = omega (arith, small)
waited (Wish archive) now seconds walked small = omega (arith, small)

pub are_fair : AreFair
are_fair = record { wish = wish_counts; there = shown; heeded = waited }
