use Rattle.std.proofs.Common.{◌≡◌, ◌<◌, ◌≤◌, ◌^◌, ◌⊎◌, inl, inr, ⊎_elim, ℕ, Option, Some, None, true, false, not, is_some, refl, ap, arith, ◌∙◌}
use Rattle.std.proofs.lemmas.Bool.{true≢false, false≢true, cases_lt}
use Rattle.std.specs.Option.{IfSome, SomeIff}
use Rattle.legacy_codecs.proofs.shared_by_runs.room_for_run.Goals as goal

-- what a sum says that is there, or not there
fits : {P : Type 0} (sum : Option ℕ) (v : ℕ) → is_some sum ≡ true → SomeIff sum P v → P
fits None v some s = absurd (false≢true some)
fits (Some n) v some s = s.0

-- what all pieces are, if there is a sum
all_sound : {P : Type 0} (sum : Option ℕ) → is_some sum ≡ true → IfSome sum (λ total. P) → P
all_sound None some s = absurd (false≢true some)
all_sound (Some n) some s = s

exceeds : {P : Type 0} (sum : Option ℕ) (v : ℕ) → is_some sum ≡ false → SomeIff sum P v → P → ⊥
exceeds None v none s = s
exceeds (Some n) v none s = absurd (true≢false none)

not_below : (a : ℕ) → (a < 2 ^ 64 → ⊥) → 2 ^ 64 ≤ a
not_below a never = ⊎_elim (λ m. absurd (never m)) (λ m. m) (cases_lt a (2 ^ 64))

-- two sums that fit are not too long
not_too_long : {a b : ℕ} → a < 2 ^ 64 → b < 2 ^ 64 → (2 ^ 64 ≤ a) ⊎ (2 ^ 64 ≤ b) → ⊥
not_too_long h k long = ⊎_elim (λ m. omega arith) (λ m. omega arith) long

pub returns-then-is_none : goal.returns-then-is_none
returns-then-is_none g c =
    let none = c.is_none.ensures ∙ ap not c.if-is_none.true in
    record {
      empty = tt;
      room = tt;
      output = tt;
      total = tt;
      sound = tt;
      too_long = ((λ e. inl (not_below _ (exceeds c.total_length.result _ none c.total_length.ensures.total))), (λ h. refl));
    }

pub returns-in_default : goal.returns-in_default
returns-in_default g c =
    record { empty = tt; room = tt; output = tt; total = tt; sound = tt; too_long = ((λ e. inr (not_below _ c.in_default.ensures)), (λ h. refl)) }

pub returns-in_default-with_capacity : goal.returns-in_default-with_capacity
returns-in_default-with_capacity g c =
    let total = fits c.total_length.result _ (c.is_none.ensures ∙ ap not c.if-is_none.false) c.total_length.ensures.total in
    record { empty = tt; room = tt; output = tt; total = tt; sound = tt; too_long = ((λ e. cc), (λ h. absurd (not_too_long total c.in-Some.ensures.0 h))) }

pub returns-in_default-vec : goal.returns-in_default-vec
returns-in_default-vec g c =
    let total = fits c.total_length.result _ (c.is_none.ensures ∙ ap not c.if-is_none.false) c.total_length.ensures.total in
    record { empty = tt; room = tt; output = tt; total = tt; sound = tt; too_long = ((λ e. cc), (λ h. absurd (not_too_long total c.in-Some.ensures.0 h))) }

pub returns-clause-output : goal.returns-clause-output
returns-clause-output g c k d h = let small = c.longest.ensures k d h in omega (arith, c.in-Ok-vec.ensures.len)

pub returns-clause-total : goal.returns-clause-total
returns-clause-total g c = fits c.total_length.result _ (c.is_none.ensures ∙ ap not c.if-is_none.false) c.total_length.ensures.total

pub returns-clause-too_long : goal.returns-clause-too_long
returns-clause-too_long g c =
    let total = fits c.total_length.result _ (c.is_none.ensures ∙ ap not c.if-is_none.false) c.total_length.ensures.total in
    ((λ e. cc), (λ h. absurd (not_too_long total c.in-Some.ensures.0 h)))

pub returns-clause-sound : goal.returns-clause-sound
returns-clause-sound g c = all_sound c.total_length.result (c.is_none.ensures ∙ ap not c.if-is_none.false) c.total_length.ensures.sound
