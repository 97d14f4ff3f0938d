-- From the mask of sixteen lanes to the bytes of a text.
use Rattle.std.proofs.Common.{◌≡◌, ℕ, ◌+◌, ◌%◌, ◌^◌, ◌<◌, ◌≤◌, Bool, true, false, not, List, map, length, get_or, Fits, w8, sym, ap, ◌∙◌, arith}
use Rattle.std.proofs.lemmas.Bool.{agree_below, agree_below_at, not-false}
use Rattle.std.proofs.lemmas.Simd.{map-map, mask_l-mod, length-chunk, first_set_mask_l, run_in_chunk_le, run_in_chunk_fails}
use Rattle.std.proofs.lemmas.List.{length-map}
use Rattle.std.specs.List.{prefix_len}
use lib.Lanes.{chunk, mask_l, top}
use Rattle.link_format.specs.Scan.{first_lane}

-- a vector was computed lane by lane from the front of the text, and r is the first lane whose top bit is set
module _ (text : List ℕ) (r : ℕ) (lanes : List ℕ) (room : 0 + 16 ≤ length text) (f : ℕ → ℕ) (computed : lanes ≡ map f (chunk 0 16 text))
    (found : r ≡ first_lane (mask_l (map (top 7) lanes) % 2 ^ 64)) where
  abbrev stops : ℕ → Bool
  stops b = top 7 (f b)

  long : length (chunk 0 16 text) ≡ 16
  long = length-chunk 0 16 text room

  counted : r ≡ prefix_len (λ b. not (stops b)) (chunk 0 16 text)
  counted =
      let block = chunk 0 16 text in
      let mask = ap (λ l. mask_l l % 2 ^ 64) (ap (map (top 7)) computed ∙ map-map (top 7) f block) ∙ mask_l-mod (map stops block) 64 (omega (arith, length-map block stops, long)) in
      found ∙ ap first_lane mask ∙ first_set_mask_l stops block 16 long (omega arith)

  -- where a lane stops just where the test fails, each byte before the first that stops passes
  pub run_passes : (test : ℕ → Bool) → ((k : ℕ) → Fits w8 (get_or text k 0)) → agree_below stops (λ b. not (test b)) 256 ≡ true
      → (r ≤ 16) × ((k : ℕ) → k < r → test (get_or text k 0) ≡ true)
  run_passes test fits all = (
    run_in_chunk_le stops text 0 16 r 0 room counted,
    λ k below.
        let goes_on : stops (get_or text k 0) ≡ false = run_in_chunk_fails stops text 0 16 r 0 room counted k (omega arith) (omega arith) in
        not-false (test (get_or text k 0)) (sym (agree_below_at stops (λ b. not (test b)) 256 (get_or text k 0) all (fits k).fits) ∙ goes_on),
  )
