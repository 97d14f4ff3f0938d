use Rattle.std.proofs.Common.{◌≡◌, ℕ, ◌+◌, ◌-◌, List, ◌++◌, rules, length, take, drop, ap, sym, subst, ◌∙◌}
use Rattle.std.proofs.lemmas.List.{take_rest}
use lib.Seq.{take-add}
use Rattle.std.specs.Io.KnownBytes.{Appends}
use Rattle.std.proofs.KnownBytes.{Appends-trans}
use Rattle.snapshot_sections.proofs.Appending.{front_alone, on_err}
use Rattle.snapshot_sections.proofs.writing.write_bytes.Goals as goal

longer_front : (a n : ℕ) (xs : List ℕ) → take a xs ++ take n (take (length xs - a) (drop a xs)) ≡ take (a + n) xs
longer_front a n xs = ap (λ l. take a xs ++ take n l) (take_rest xs a) ∙ sym (take-add a n xs)

pub loop-written-preserved : goal.loop-written-preserved
loop-written-preserved g c = (
  search rules,
  subst (Appends _ _) (longer_front c.loop-written.written c.in_ok-count.count c.args.bytes.now)
      (Appends-trans _ _ _ _ _ c.loop-written.invariant.1 c.in_ok-count.ensures.written),
)

pub returns-in_err-count-clause-less : goal.returns-in_err-count-clause-less
returns-in_err-count-clause-less g c =
    on_err _ (front_alone _ _ _ c.loop-written.written c.args.bytes.now (search rules) c.loop-written.invariant.1 c.in_err-count.ensures.kept)
