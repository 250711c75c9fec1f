-- The places of eight codes lane by lane, and the entries at them.
use Rattle.std.proofs.Common.{◌≡◌, ◌≢◌, ℕ, zero, suc, ◌+◌, ◌-◌, ◌*◌, ◌/◌, ◌%◌, ◌^◌, ◌<◌, ◌≤◌, ◌++◌, min, Bool, cond, leb, ltb, List, [], ◌∷◌}
use Rattle.std.proofs.Common.{ap, arith, bit_and, drop, get_or, length, map, option_to_list, refl, replicate, w16, Fits}
use Rattle.std.proofs.{Math.Nat.{mul_comm, mul-le-mul_left, mul-le-mul_right, mul-sub}, lemmas.{Bool.Decides.nat_tests, Nat.and_mask}}
use Rattle.std.specs.Int.{is_in_range}
use lib.Lanes.{Each1, zip2, sel_l, top}
use Rattle.legacy_tables.specs.Indexes.{entry_scalar}
use Rattle.legacy_text.proofs.UnitLanes.{of_eight}
use Rattle.legacy_decoder_engine.specs.{LaneCodes.ArePlaces, LanePlaces.{lead_place_of, late_place_of, trail_place_of}}

-- the lists of eight lanes that a computation gives, from what it gives for one
pub lane_by_lane : (F : List ℕ → List ℕ) (f : ℕ → ℕ) → ((c : ℕ) → c < 65536 → F (c ∷ []) ≡ f c ∷ [])
    → ((a b c d e g h i : ℕ) → F (a ∷ b ∷ c ∷ d ∷ e ∷ g ∷ h ∷ i ∷ [])
    ≡ F (a ∷ []) ++ F (b ∷ []) ++ F (c ∷ []) ++ F (d ∷ []) ++ F (e ∷ []) ++ F (g ∷ []) ++ F (h ∷ []) ++ F (i ∷ []))
    → (v : List ℕ) → length v ≡ 8 → Each1 (Fits w16) v → F v ≡ map f v
lane_by_lane F f one split = of_eight (λ v. F v ≡ map f v) (λ a b c d e g h i sa sb sc sd se sg sh si.
    rw (split a b c d e g h i, one a sa, one b sb, one c sc, one d sd, one e se, one g sg, one h sh, one i si) refl)

-- all bits of a lane, or none
abbrev pub mask_if : Bool → ℕ
mask_if t = cond t (2 ^ 16 - 1) 0

-- a difference that wraps
abbrev pub less : ℕ → ℕ → ℕ
less a b = (a + (2 ^ 16 - b)) % 2 ^ 16

abbrev seconds : List ℕ → List ℕ
seconds v = zip2 (λ a b. a / 2 ^ b) v (replicate 8 8)

abbrev columns : List ℕ → ℕ → List ℕ
columns v first = zip2 less v (replicate 8 first)

abbrev lead_places : List ℕ → ℕ → ℕ → List ℕ
lead_places v lead width = zip2 (λ a b. a * b % 2 ^ 16) (columns (zip2 bit_and v (replicate 8 255)) lead) (replicate 8 width)

-- a difference that wraps, times a width
wrapped : (d width : ℕ) → 0 < width * d → width * d < 65536 → (65536 - d) * width % 65536 ≡ 65536 - width * d
wrapped d zero some small = absurd (omega arith)
wrapped d (suc w) some small = grind (arith, nat_tests, mul_comm, mul-sub)

module _ (lead leads width : ℕ) (room : lead + leads < 256) (narrow : width < 256) (some : 0 < width) (rows : (lead + leads + 1) * width ≤ 65536) where
  -- up to the end of the rows, the product is the place of the lead
  lead_limited : (b : ℕ) → b < 256 → min (less b lead * width % 65536) ((leads + 1) * width)
      ≡ min (cond (is_in_range lead (lead + leads) b) ((b - lead) * width) 65535) ((leads + 1) * width)
  lead_limited b byte =
      let back : width * (lead - b) ≤ width * lead = mul-le-mul_left width (omega arith) in
      let one : 1 ≤ lead - b → width * 1 ≤ width * (lead - b) = mul-le-mul_left width in
      let within : b - lead ≤ leads → (b - lead) * width ≤ leads * width = mul-le-mul_right width in
      let past : leads + 1 ≤ b - lead → (leads + 1) * width ≤ (b - lead) * width = mul-le-mul_right width in
      let most : (b - lead) * width ≤ 255 * width = mul-le-mul_right width (omega arith) in
      let all : (lead + leads + 1) * width ≡ width * lead + (leads + 1) * width = omega arith in
      grind (arith, nat_tests, wrapped (lead - b) width)

  pub leads_are : (v : List ℕ) → length v ≡ 8 → Each1 (Fits w16) v
      → ArePlaces ((leads + 1) * width) (lead_place_of lead leads width) v (lead_places v lead width)
  leads_are = lane_by_lane (λ v. map (λ p. min p ((leads + 1) * width)) (lead_places v lead width))
      (λ c. min (lead_place_of lead leads width c) ((leads + 1) * width))
      (λ c small. rw (and_mask c 8) (ap (λ p. p ∷ []) (lead_limited (c % 256) (omega arith)))) (λ a b c d e g h i. refl)

module _ (first limit : ℕ) (byte : first < 256) (most : limit ≤ 65280) where
  abbrev late_places : List ℕ → List ℕ
  late_places v = sel_l (map (top 15) (zip2 (λ a b. mask_if (leb a b)) (replicate 8 65280) v)) (replicate 8 65535) (columns (seconds v) first)

  pub lates_are : (v : List ℕ) → length v ≡ 8 → Each1 (Fits w16) v → ArePlaces limit (late_place_of first) v (late_places v)
  lates_are = lane_by_lane (λ v. map (λ p. min p limit) (late_places v)) (λ c. min (late_place_of first c) limit) (λ c small. grind (arith, nat_tests))
      (λ a b c d e g h i. refl)

module _ (second last : ℕ) (gap : 128 ≤ second) (some : second ≤ last) (byte : last < 256) where
  abbrev trail_places : List ℕ → List ℕ
  trail_places v =
      let picked : ℕ → ℕ → List ℕ =
      λ a b. sel_l (map (top 15) (zip2 (λ a b. mask_if (ltb a b)) (seconds v) (replicate 8 second))) (replicate 8 a) (replicate 8 b) in
      let column = zip2 (λ a b. (a + b) % 2 ^ 16) (columns (seconds v) (second - 63)) (picked (second - 63 - 64) 0) in
      sel_l (map (top 15) (zip2 (λ a b. mask_if (leb a b)) (picked 63 (last - (second - 63) + 1)) column)) (replicate 8 65535) column

  pub trails_are : (limit : ℕ) (v : List ℕ) → length v ≡ 8 → Each1 (Fits w16) v → ArePlaces limit (trail_place_of second last) v (trail_places v)
  trails_are limit = lane_by_lane (λ v. map (λ p. min p limit) (trail_places v)) (λ c. min (trail_place_of second last c) limit)
      (λ c small. grind (arith, nat_tests)) (λ a b c d e g h i. refl)

abbrev place_sums : List ℕ → List ℕ → List ℕ
place_sums leads trails =
    let rest = map (λ a. 65535 - a) leads in
    zip2 (λ a b. (a + b) % 2 ^ 16) leads (sel_l (map (top 15) (zip2 (λ a b. mask_if (ltb a b)) trails rest)) trails rest)

module _ (limit : ℕ) (small : limit < 65536) (lead trail : ℕ → ℕ) where
  -- if either place is not below the limit, nor is the sum
  pub sums_are : (codes leads trails : List ℕ) → Each1 (Fits w16) leads → Each1 (Fits w16) trails
      → ArePlaces limit lead codes leads → ArePlaces limit trail codes trails
      → ArePlaces limit (λ code. min (lead code + trail code) 65535) codes (place_sums leads trails)
  sums_are [] [] ts s t e f = refl
  sums_are (c ∷ cs) (l ∷ ls) (t ∷ ts) s u e f =
      grind (arith, nat_tests, ap (λ l. get_or l 0 0) e, ap (λ l. get_or l 0 0) f, sums_are cs ls ts s.1 u.1 (ap (drop 1) e) (ap (drop 1) f))
  sums_are codes leads trails s u e f = absurd (omega (arith, ap length e, ap length f))

pub entry_is : (e : ℕ) → e ≢ 0 → option_to_list (entry_scalar e) ≡ e ∷ []
entry_is e some = grind (arith, nat_tests)

pub lane_is : (f : ℕ → ℕ) (k : ℕ) → k < 8 → get_or (f 0 ∷ f 1 ∷ f 2 ∷ f 3 ∷ f 4 ∷ f 5 ∷ f 6 ∷ f 7 ∷ []) k 0 ≡ f k
lane_is f zero h = refl
lane_is f (suc zero) h = refl
lane_is f (suc (suc zero)) h = refl
lane_is f (suc (suc (suc zero))) h = refl
lane_is f (suc (suc (suc (suc zero)))) h = refl
lane_is f (suc (suc (suc (suc (suc zero))))) h = refl
lane_is f (suc (suc (suc (suc (suc (suc zero)))))) h = refl
lane_is f (suc (suc (suc (suc (suc (suc (suc zero))))))) h = refl
lane_is f (suc (suc (suc (suc (suc (suc (suc (suc k)))))))) h = absurd (omega arith)
