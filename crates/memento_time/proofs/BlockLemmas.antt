-- From the mask of a block's lanes to the bytes of a text, and from its blocks to the whole of it.
use Rattle.std.proofs.Common.{◌≡◌, ℕ, zero, suc, ◌+◌, ◌-◌, ◌≤◌, ◌%◌, ◌^◌, ◌<◌, ltb, eqb, bit_or, Fits, w8, Bool, cond, true, false, not, ◌&&◌}
use Rattle.std.proofs.Common.{List, [], ◌∷◌, ◌++◌, length, map, take, drop, get_or, min, Ordering, Less, Equal, Greater, replicate, All, refl, sym, ap, ◌∙◌, arith}
use Rattle.std.proofs.lemmas.Bool.Decides.{nat_tests}
use Rattle.std.proofs.Math.Bool.{not-not}
use Rattle.std.proofs.Math.Seq.{take-add}
use Rattle.std.proofs.lemmas.Bool.{agree_below_at}
use Rattle.std.proofs.lemmas.List.{drop-drop, length-map, map-id, take-append-drop, take-take, take_rest}
use Rattle.std.proofs.lemmas.List.Elements.{All-append, All-drop, All-same}
use Rattle.std.proofs.lemmas.List.Sums.{prefix_len_stops}
use Rattle.std.proofs.lemmas.Map.Lookups.{exact_bytes}
use Rattle.std.proofs.lemmas.Map.Text.{is_eq-slice_cmp}
use Rattle.std.proofs.lemmas.Simd.{length-zip2, map-map, mask_l-mod, get_or-chunk, get_or-zip2, length-chunk, trailing_mask_l, tops_compared, zip2_of_maps, zip2_splat, zip2_splat_left}
use Rattle.std.specs.Bool.{Decides}
use Rattle.std.specs.List.{list_all, prefix_len}
use Rattle.std.specs.Cmp.Lexicographic.{pointwise, slice_cmp}
use Rattle.std.specs.Ordering.{nat_cmp, ordering_then, is_eq, is_ne}
use Rattle.memento_time.specs.Text.{IsCleanByte, is_clean_byte}
use Rattle.memento_time.proofs.CleanLemmas.{clean_bytes, are_clean}
use lib.Count.{count_trailing_zeros}
use lib.Lanes.{Each1, mask_l, top, zip2}

-- the mask is 0 just where it has no lane
no_lane : (lanes : List Bool) → eqb (mask_l lanes) 0 ≡ list_all not lanes
no_lane [] = refl
no_lane (true ∷ lanes) = grind (arith, nat_tests)
no_lane (false ∷ lanes) = grind (arith, nat_tests, no_lane lanes)

-- where no lane of a comparison differs, the lists are the same
no_difference : (xs ys : List ℕ) → length xs ≡ length ys → list_all not (zip2 (λ x y. not (eqb x y)) xs ys) ≡ pointwise eqb xs ys
no_difference [] [] h = refl
no_difference [] (y ∷ ys) h = cc
no_difference (x ∷ xs) [] h = cc
no_difference (x ∷ xs) (y ∷ ys) h = grind (arith, nat_tests, no_difference xs ys (omega arith))

-- how two texts are ordered doesn't hang on a front that both have, nor whether they are the same
pub order_of_rests : (n : ℕ) (xs ys : List ℕ) → take n xs ≡ take n ys → slice_cmp nat_cmp (drop n xs) (drop n ys) ≡ slice_cmp nat_cmp xs ys
order_of_rests zero xs ys h = refl
order_of_rests (suc n) [] [] h = refl
order_of_rests (suc n) [] (y ∷ ys) h = cc
order_of_rests (suc n) (x ∷ xs) [] h = cc
order_of_rests (suc n) (x ∷ xs) (y ∷ ys) h =
    let first : x ≡ y = cc in
    let rests : take n xs ≡ take n ys = cc in
    grind (arith, nat_tests, first, order_of_rests n xs ys rests)

-- the order of two texts is that of their fronts, and else that of their rests
pub order_by_parts : (n : ℕ) (xs ys : List ℕ)
    → slice_cmp nat_cmp xs ys ≡ ordering_then (slice_cmp nat_cmp (take n xs) (take n ys)) (slice_cmp nat_cmp (drop n xs) (drop n ys))
order_by_parts zero xs ys = refl
order_by_parts (suc n) [] [] = refl
order_by_parts (suc n) [] (y ∷ ys) = refl
order_by_parts (suc n) (x ∷ xs) [] = refl
order_by_parts (suc n) (x ∷ xs) (y ∷ ys) = grind (arith, nat_tests, order_by_parts n xs ys)

-- where nothing of one text is left, the longer one is the greater
order_of_ends : (n : ℕ) (xs ys : List ℕ) → n ≡ min (length xs) (length ys)
    → slice_cmp nat_cmp (drop n xs) (drop n ys) ≡ nat_cmp (length xs) (length ys)
order_of_ends zero [] [] h = refl
order_of_ends zero [] (y ∷ ys) h = grind (arith, nat_tests)
order_of_ends zero (x ∷ xs) [] h = grind (arith, nat_tests)
order_of_ends zero (x ∷ xs) (y ∷ ys) h = absurd (omega arith)
order_of_ends (suc n) [] ys h = absurd (omega arith)
order_of_ends (suc n) (x ∷ xs) [] h = absurd (omega arith)
order_of_ends (suc n) (x ∷ xs) (y ∷ ys) h = grind (arith, nat_tests, order_of_ends n xs ys (omega arith))

-- two texts have the same front of `start` bytes, and it ends within both
pub record HaveSameFront (xs ys : List ℕ) (start : ℕ) : Type 0 where
  pub same : take start xs ≡ take start ys
  pub within_left : start ≤ length xs
  pub within_right : start ≤ length ys

-- the first block of the slice from `start` on is the block at `start`
pub block_of_rest : (xs : List ℕ) (start : ℕ) → take 16 (take (length xs - start) (drop start xs)) ≡ take 16 (drop start xs)
block_of_rest xs start = ap (take 16) (take_rest xs start)

-- the first blocks of two such slices are ordered as the blocks at `start`
pub order_of_blocks : (xs ys : List ℕ) (start : ℕ)
    → slice_cmp nat_cmp (take 16 (take (length xs - start) (drop start xs))) (take 16 (take (length ys - start) (drop start ys)))
    ≡ slice_cmp nat_cmp (take 16 (drop start xs)) (take 16 (drop start ys))
order_of_blocks xs ys start = λ i. slice_cmp nat_cmp (block_of_rest xs start i) (block_of_rest ys start i)

-- the same front, and the same block after it
pub same_more : (xs ys : List ℕ) (start : ℕ) → take start xs ≡ take start ys → take 16 (drop start xs) ≡ take 16 (drop start ys)
    → take (start + 16) xs ≡ take (start + 16) ys
same_more xs ys start front block = rw (take-add start 16 xs, take-add start 16 ys) (cc)

-- a shorter front of the same front
pub same_less : (xs ys : List ℕ) (start last : ℕ) → last ≤ start → take start xs ≡ take start ys → take last xs ≡ take last ys
same_less xs ys start last reaches front =
    sym (take-take last start xs reaches) ∙ ap (take last) front ∙ take-take last start ys reaches

decided : (order rest : Ordering) → is_ne order ≡ true → ordering_then order rest ≡ order
decided Less rest h = refl
decided Equal rest h = cc
decided Greater rest h = refl

tied : (order : Ordering) → is_ne order ≡ false → order ≡ Equal
tied Less h = cc
tied Equal h = refl
tied Greater h = cc

-- a block that differs after a front that both texts have decides their order
pub order_by_block : (xs ys : List ℕ) (start : ℕ) (order : Ordering) → take start xs ≡ take start ys
    → order ≡ slice_cmp nat_cmp (take 16 (drop start xs)) (take 16 (drop start ys)) → is_ne order ≡ true
    → order ≡ slice_cmp nat_cmp xs ys
order_by_block xs ys start order front block differs =
    let rest = slice_cmp nat_cmp (drop 16 (drop start xs)) (drop 16 (drop start ys)) in
    sym (decided order rest differs) ∙ ap (λ o. ordering_then o rest) block
    ∙ sym (order_by_parts 16 (drop start xs) (drop start ys)) ∙ order_of_rests start xs ys front

-- blocks that tie are the same
pub same_by_order : (xs ys : List ℕ) (order : Ordering) → order ≡ slice_cmp nat_cmp xs ys → is_ne order ≡ false → xs ≡ ys
same_by_order xs ys order compared ties = exact_bytes xs ys (sym compared ∙ tied order ties)

-- after a front that both texts have, the last block of the shorter one decides, and else their lengths
pub order_by_last : (xs ys : List ℕ) (last : ℕ) → take last xs ≡ take last ys → last + 16 ≡ min (length xs) (length ys)
    → ordering_then (slice_cmp nat_cmp (take 16 (drop last xs)) (take 16 (drop last ys))) (nat_cmp (length xs) (length ys))
    ≡ slice_cmp nat_cmp xs ys
order_by_last xs ys last front ends =
    let block = slice_cmp nat_cmp (take 16 (drop last xs)) (take 16 (drop last ys)) in
    let lengths : slice_cmp nat_cmp (drop 16 (drop last xs)) (drop 16 (drop last ys)) ≡ nat_cmp (length xs) (length ys) =
    rw (drop-drop 16 last xs, drop-drop 16 last ys) (order_of_ends (last + 16) xs ys ends) in
    ap (ordering_then block) (sym lengths) ∙ sym (order_by_parts 16 (drop last xs) (drop last ys)) ∙ order_of_rests last xs ys front

-- the mask of a comparison is 0 just where the blocks are the same
pub same_by_mask : (xs ys : List ℕ) → length xs ≡ 16 → length ys ≡ 16
    → eqb (mask_l (map (top 7) (zip2 (λ x y. cond (not (eqb x y)) 255 0) xs ys)) % 2 ^ 64) 0 ≡ pointwise eqb xs ys
same_by_mask xs ys long as_long =
    let lanes = zip2 (λ x y. not (eqb x y)) xs ys in
    let tops = ap (λ l. mask_l l % 2 ^ 64) (tops_compared w8 (λ x y. not (eqb x y)) xs ys) in
    let fits = mask_l-mod lanes 64 (omega (arith, length-zip2 (λ x y. not (eqb x y)) xs ys (omega arith))) in
    ap (λ n. eqb n 0) (tops ∙ fits) ∙ no_lane lanes ∙ no_difference xs ys (omega arith)

tie : (order : Ordering) → is_eq order ≡ true → Equal ≡ order
tie Less h = cc
tie Equal h = refl
tie Greater h = cc

-- blocks whose comparison has no lane tie
pub tie_by_mask : (xs ys : List ℕ) → length xs ≡ 16 → length ys ≡ 16
    → mask_l (map (top 7) (zip2 (λ x y. cond (not (eqb x y)) 255 0) xs ys)) % 2 ^ 64 ≡ 0 → Equal ≡ slice_cmp nat_cmp xs ys
tie_by_mask xs ys long as_long none =
    tie (slice_cmp nat_cmp xs ys) (is_eq-slice_cmp xs ys ∙ sym (same_by_mask xs ys long as_long) ∙ ap (λ n. eqb n 0) none)

-- a mask that isn't 0 has a lane
some_lane : (lanes : List Bool) → 0 < mask_l lanes → prefix_len not lanes < length lanes
some_lane [] h = absurd (omega arith)
some_lane (true ∷ lanes) h = omega arith
some_lane (false ∷ lanes) h = omega (arith, some_lane lanes (omega arith))

-- two blocks are ordered as their bytes at the first lane that differs
order_at : (xs ys : List ℕ) → length xs ≡ length ys
    → let lane = prefix_len not (zip2 (λ x y. not (eqb x y)) xs ys) in slice_cmp nat_cmp xs ys ≡ nat_cmp (get_or xs lane 0) (get_or ys lane 0)
order_at [] [] h = refl
order_at [] (y ∷ ys) h = cc
order_at (x ∷ xs) [] h = cc
order_at (x ∷ xs) (y ∷ ys) h = grind (arith, nat_tests, order_at xs ys (omega arith))

less : (a b : ℕ) → a < b → Less ≡ nat_cmp a b
less a b h = grind (arith, nat_tests)

greater : (a b : ℕ) → eqb a b ≡ false → b ≤ a → Greater ≡ nat_cmp a b
greater a b differ h = grind (arith, nat_tests)

-- the mask of a comparison of two texts' first blocks isn't 0: its lowest lane is that of the first bytes that differ
module _ (left right : List ℕ) (long : 16 ≤ length left) (as_long : 16 ≤ length right) (mask : ℕ)
    (computed : mask ≡ mask_l (map (top 7) (zip2 (λ x y. cond (not (eqb x y)) 255 0) (take 16 left) (take 16 right))) % 2 ^ 64) (some : 0 < mask) where
  abbrev xs : List ℕ
  xs = take 16 left

  abbrev ys : List ℕ
  ys = take 16 right

  abbrev lanes : List Bool
  lanes = zip2 (λ x y. not (eqb x y)) xs ys

  abbrev lane : ℕ
  lane = count_trailing_zeros 64 mask

  xs_long : length xs ≡ 16
  xs_long = length-chunk 0 16 left long

  ys_long : length ys ≡ 16
  ys_long = length-chunk 0 16 right as_long

  lanes_long : length lanes ≡ 16
  lanes_long = length-zip2 (λ x y. not (eqb x y)) xs ys (xs_long ∙ sym ys_long) ∙ xs_long

  mask_is : mask ≡ mask_l lanes
  mask_is =
      let tops = ap (λ l. mask_l l % 2 ^ 64) (tops_compared w8 (λ x y. not (eqb x y)) xs ys) in
      computed ∙ tops ∙ mask_l-mod lanes 64 (omega (arith, lanes_long))

  lane_is : lane ≡ prefix_len not lanes
  lane_is =
      let whole = ap mask_l (map-id lanes) in
      ap (count_trailing_zeros 64) (mask_is ∙ sym whole) ∙ trailing_mask_l (λ lane. lane) 64 lanes (omega (arith, lanes_long)) (omega (arith, whole, mask_is))

  pub lane_below : lane < 16
  lane_below = omega (arith, some_lane lanes (omega (arith, mask_is)), lanes_long, lane_is)

  at_lane : (text : List ℕ) → get_or (take 16 text) lane 0 ≡ get_or text lane 0
  at_lane text =
      let whole : 0 + lane ≡ lane = omega arith in
      get_or-chunk 0 16 text lane 0 lane_below ∙ ap (λ i. get_or text i 0) whole

  order_at_lane : slice_cmp nat_cmp xs ys ≡ nat_cmp (get_or left lane 0) (get_or right lane 0)
  order_at_lane =
      let one = ap (λ r. get_or xs r 0) (sym lane_is) ∙ at_lane left in
      let other = ap (λ r. get_or ys r 0) (sym lane_is) ∙ at_lane right in
      order_at xs ys (xs_long ∙ sym ys_long) ∙ ap (λ b. nat_cmp b (get_or ys (prefix_len not lanes) 0)) one
      ∙ ap (nat_cmp (get_or left lane 0)) other

  differ_at_lane : eqb (get_or left lane 0) (get_or right lane 0) ≡ false
  differ_at_lane =
      let stops = ap (λ r. not (get_or lanes r false)) lane_is ∙ prefix_len_stops not lanes false (omega (arith, lane_below, lane_is, lanes_long)) in
      let at = get_or-zip2 (λ x y. not (eqb x y)) xs ys lane 0 0 false (omega (arith, lane_below, xs_long)) (omega (arith, lane_below, ys_long)) in
      let bytes = ap (λ b. eqb b (get_or ys lane 0)) (at_lane left) ∙ ap (eqb (get_or left lane 0)) (at_lane right) in
      sym bytes ∙ sym (not-not (eqb (get_or xs lane 0) (get_or ys lane 0))) ∙ ap not (sym at) ∙ stops

  pub less_at_lane : get_or left lane 0 < get_or right lane 0 → Less ≡ slice_cmp nat_cmp xs ys
  less_at_lane below = less _ _ below ∙ sym order_at_lane

  pub greater_at_lane : get_or right lane 0 ≤ get_or left lane 0 → Greater ≡ slice_cmp nat_cmp xs ys
  greater_at_lane above = greater _ _ differ_at_lane above ∙ sym order_at_lane

-- a test of a lane sets all its bits where it holds
abbrev marked : Bool → ℕ
marked t = cond t 255 0

-- the lane of a byte, which is 0 where the byte is clean
abbrev unclean : ℕ → ℕ
unclean b = bit_or (bit_or (bit_or (bit_or (marked (ltb b 0x21)) (marked (ltb 0x7E b))) (marked (eqb b 0x22))) (marked (eqb b 0x3C))) (marked (eqb b 0x3E))

-- the lanes of a block as the code computes them: from vectors, not byte by byte
abbrev pub unclean_lanes : List ℕ → List ℕ
unclean_lanes block =
    let below = zip2 (λ x y. marked (ltb x y)) block (replicate 16 0x21) in
    let above = zip2 (λ x y. marked (ltb x y)) (replicate 16 0x7E) block in
    let same = λ (y : ℕ). zip2 (λ x z. marked (eqb x z)) block (replicate 16 y) in
    zip2 bit_or (zip2 bit_or (zip2 bit_or (zip2 bit_or below above) (same 0x22)) (same 0x3C)) (same 0x3E)

unclean_lanes_are : (block : List ℕ) → length block ≡ 16 → unclean_lanes block ≡ map unclean block
unclean_lanes_are block long =
    let below = zip2_splat (λ x y. marked (ltb x y)) block 16 0x21 long in
    let above = zip2_splat_left (λ x y. marked (ltb x y)) 0x7E 16 block long in
    let same = λ (y : ℕ). zip2_splat (λ x z. marked (eqb x z)) block 16 y long in
    let both = zip2_of_maps bit_or _ _ block below above in
    let quote = zip2_of_maps bit_or _ _ block both (same 0x22) in
    let less = zip2_of_maps bit_or _ _ block quote (same 0x3C) in
    zip2_of_maps bit_or _ _ block less (same 0x3E)

clean_lanes : (block : List ℕ) → Each1 (Fits w8) block → list_all not (map (λ b. top 7 (unclean b)) block) ≡ list_all is_clean_byte block
clean_lanes [] fits = refl
clean_lanes (b ∷ block) fits =
    let stops = λ (x : ℕ). top 7 (unclean x) in
    let here : stops b ≡ not (is_clean_byte b) = agree_below_at stops (λ x. not (is_clean_byte x)) 256 b refl fits.0.fits in
    ap (λ t. not t && list_all not (map stops block)) here
    ∙ ap (λ t. t && list_all not (map stops block)) (not-not (is_clean_byte b))
    ∙ ap (λ t. is_clean_byte b && t) (clean_lanes block fits.1)

-- their mask is 0 just where each byte is clean
pub clean_by_mask : (block : List ℕ) → length block ≡ 16 → Each1 (Fits w8) block
    → Decides (eqb (mask_l (map (top 7) (unclean_lanes block)) % 2 ^ 64) 0) (All IsCleanByte block)
clean_by_mask block long fits =
    let stops = λ (x : ℕ). top 7 (unclean x) in
    let tops = ap (λ l. mask_l l % 2 ^ 64) (ap (map (top 7)) (unclean_lanes_are block long) ∙ map-map (top 7) unclean block) in
    let whole = mask_l-mod (map stops block) 64 (omega (arith, length-map block stops, long)) in
    let same = ap (λ n. eqb n 0) (tops ∙ whole) ∙ no_lane (map stops block) ∙ clean_lanes block fits in
    ((λ clean. clean_bytes block (sym same ∙ clean)), (λ clean. same ∙ are_clean block clean))

-- a clean front and the clean block after it
pub clean_more : (text : List ℕ) (start : ℕ) → All IsCleanByte (take start text) → All IsCleanByte (take 16 (drop start text))
    → All IsCleanByte (take (start + 16) text)
clean_more text start front block =
    All-same IsCleanByte (take (start + 16) text) (take start text ++ take 16 (drop start text)) (take-add start 16 text)
    (All-append IsCleanByte (take start text) (take 16 (drop start text)) front block)

-- a clean front, and a clean last block that begins within it or where it ends
pub clean_to_end : (text : List ℕ) (start last : ℕ) → last ≤ start → All IsCleanByte (take start text)
    → All IsCleanByte (drop last text) → All IsCleanByte text
clean_to_end text start last reaches front block =
    let whole : last + (start - last) ≡ start = omega arith in
    let rest = sym (drop-drop (start - last) last text ∙ ap (λ n. drop n text) whole) in
    let after : All IsCleanByte (drop start text) = rw rest (All-drop IsCleanByte (start - last) (drop last text) block) in
    All-same IsCleanByte text (take start text ++ drop start text) (sym (take-append-drop start text))
    (All-append IsCleanByte (take start text) (drop start text) front after)
