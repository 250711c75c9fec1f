use Rattle.std.proofs.{Common.{◌∙◌, ap, arith, w64}, lemmas.Nat.Bits.{bit_at-trailing_zeros, bit_at-zero}}
use Rattle.{std.specs.Int.bit_at, legacy_miscellaneous.proofs.Utf16Vectors.scalar_lane}
use Rattle.legacy_miscellaneous.proofs.utf16.vectors.scalar_count.Goals as goal

pub returns-then-surrogates-eq0-clause-scalars : goal.returns-then-surrogates-eq0-clause-scalars
returns-then-surrogates-eq0-clause-scalars c k h =
    scalar_lane c.args.units c.fits-units.0 c.fits-units.1 k h (ap (λ n. bit_at n k) c.if-surrogates-eq0.true ∙ bit_at-zero k)

pub returns-clause-scalars : goal.returns-clause-scalars
returns-clause-scalars c k h =
    scalar_lane c.args.units c.fits-units.0 c.fits-units.1 k (omega arith) ((bit_at-trailing_zeros w64 _ (omega arith) (omega arith)).2 k (omega arith))
