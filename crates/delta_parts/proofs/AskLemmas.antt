-- The targets of parts.
use Rattle.std.proofs.Common.{◌≡◌, ℕ, zero, suc, ◌<◌, List, [], ◌∷◌, None, Some, refl, arith}
use Rattle.std.specs.Prelude.{All, slice_index}
use Rattle.std.proofs.lemmas.List.Elements.{All-head, All-tail}
use Rattle.hex.specs.Hex.{IsBytes, encode_lower}
use Rattle.hex.proofs.HexLemmas.{decode_of-encode_lower}
use Rattle.memento_time.specs.Text.{IsCleanByte}
use Rattle.delta_parts.specs.declared.asks.PartAsk.{PartAsk}
use Rattle.delta_parts.specs.declared.asks.PartAsk.TheVariants.{First, Next}
use Rattle.delta_parts.specs.Asks.{IsAsk, Names, target_of}

clean_bytes : (text : List ℕ) → All IsCleanByte text → IsBytes text
clean_bytes [] all i = omega arith
clean_bytes (b ∷ text) all zero = let its = All-head IsCleanByte b text all in omega (arith, its.0)
clean_bytes (b ∷ text) all (suc i) = clean_bytes text (All-tail IsCleanByte b text all) i

-- the target that is written for a part names it
pub stands : (ask : PartAsk) → IsAsk ask → Names (target_of ask) ask
stands (First None) is = refl
stands (First (Some c)) is = refl
stands (Next c behind) is = record {
  digits = encode_lower behind.original;
  stands = refl;
  original = decode_of-encode_lower behind.original (clean_bytes behind.original is.1.1.0.1);
}
