-- The states after steps.
use Rattle.std.proofs.Common.{◌≡◌, ℕ, suc, List, length, Bool, true, false, cond, Option, option_to_list, arith}
use Rattle.legacy_base.specs.{Fronts.{malformed, reads_or}, Grammar.Grammar, DecoderActs.has_marks}
use Rattle.legacy_decoder_engine.specs.{Steps.{Step, finish, trail_step}, StatesAfterSteps.{IsOneOrMarked, Settles}, Shown.WriteSettles}

pub settles_test : (g : Grammar) (held : List ℕ) (b : ℕ) (t : Bool) (s₁ s₂ : Step) → (t ≡ true → Settles g held b s₁) → (t ≡ false → Settles g held b s₂)
    → Settles g held b (cond t s₁ s₂)
settles_test g held b t s₁ s₂ h h1 = grind arith

pub one_test : (marks t : Bool) (xs ys : List ℕ) → IsOneOrMarked marks xs → IsOneOrMarked marks ys → IsOneOrMarked marks (cond t xs ys)
one_test marks t xs ys h h1 = grind arith

pub one_option : (marks : Bool) (o : Option ℕ) → IsOneOrMarked marks (option_to_list o)
one_option marks o = grind arith

pub trail_settles : (g : Grammar) (held : List ℕ) (b : ℕ) (cs : List ℕ) → IsOneOrMarked (has_marks g) cs → Settles g held b (trail_step (length held) cs b)
trail_settles g held b cs h = grind (arith, settles_test)

pub or_settles : (g : Grammar) (held : List ℕ) (b : ℕ) (cs : List ℕ) → IsOneOrMarked (has_marks g) cs
    → Settles g held b (finish (reads_or (suc (length held)) cs (malformed (suc (length held)))))
or_settles g held b cs h = grind arith

pub write_test : (g : Grammar) (held : List ℕ) (t : Bool) (p q : Option (ℕ × ℕ)) → (t ≡ true → WriteSettles g held p) → (t ≡ false → WriteSettles g held q)
    → WriteSettles g held (cond t p q)
write_test g held t p q h h1 = grind arith
