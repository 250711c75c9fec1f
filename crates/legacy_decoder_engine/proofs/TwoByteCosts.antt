-- The code units that the steps write in codecs with sequences of one and two bytes.
use Rattle.std.proofs.{Common.{◌≡◌, ℕ, ◌*◌, ◌≤◌, List, [], ◌∷◌, length, Bool, true, false, cond, arith}, lemmas.Bool.{ltb-true, Decides.nat_tests}}
use Rattle.std.specs.Char.{is_ascii}
use Rattle.legacy_tables.specs.Unicode.{is_katakana_byte}
use Rattle.legacy_decoder_engine.{specs.{Steps.{Step, trail_step}, StepUnits.{units, IsWidth, Cost}}, proofs.TwoByteMeets.{IsFirstStep, ascii}}

pub cost_test : (len : ℕ → ℕ) (narrow at_most : ℕ) (wt : List ℕ → ℕ) (slope : ℕ) (held : List ℕ) (b : ℕ) (t : Bool) (s₁ s₂ : Step) →
    (t ≡ true → Cost len narrow at_most wt slope held b s₁) → (t ≡ false → Cost len narrow at_most wt slope held b s₂)
    → Cost len narrow at_most wt slope held b (cond t s₁ s₂)
cost_test len narrow at_most wt slope held b t s₁ s₂ h h1 = grind arith

pub katakana_below : (b : ℕ) → is_katakana_byte b ≡ true → b ≤ 0xDF
katakana_below b h = grind (arith, nat_tests)

module _ (len : ℕ → ℕ) (narrow wide : ℕ) (w : IsWidth len narrow wide) where
  pub trail_cost : (at_most slope lead b : ℕ) (scalars : List ℕ) → units len scalars ≤ at_most → narrow ≤ at_most → at_most ≤ 2 * narrow → at_most ≤ slope →
      Cost len narrow at_most length slope (lead ∷ []) b (trail_step 1 scalars b)
  trail_cost at_most slope lead b scalars h h1 h2 h3 = grind (arith, cost_test)

  pub first_cost : (is_lead_byte : ℕ → Bool) (paid at_most b : ℕ) (s : Step) → narrow ≤ at_most → IsFirstStep is_lead_byte paid b s
      → Cost len narrow (cond (is_ascii b) 1 at_most) length paid [] b s
  first_cost is_lead_byte paid at_most b s h h1 = grind (arith, ascii, ltb-true)

  pub units_test : (n : ℕ) (t : Bool) (xs ys : List ℕ) → (t ≡ true → units len xs ≤ n) → (t ≡ false → units len ys ≤ n) → units len (cond t xs ys) ≤ n
  units_test n t xs ys h h1 = grind arith
