use Rattle.std.proofs.{Common.{◌∙◌, ap, arith, w64}, lemmas.Nat.Bits.{bit_at-trailing_zeros, bit_at-zero}}
use Rattle.std.specs.Int.{bit_at}
use Rattle.legacy_decoder_engine.proofs.LaneUnits.{unit_known}
use Rattle.legacy_decoder_engine.proofs.lanes.known_count.Goals as goal

pub returns-then-zeros-eq0-clause-known : goal.returns-then-zeros-eq0-clause-known
returns-then-zeros-eq0-clause-known c k h = unit_known c.args.units c.fits-units.0 k h (ap (λ n. bit_at n k) c.if-zeros-eq0.true ∙ bit_at-zero k)

pub returns-clause-known : goal.returns-clause-known
returns-clause-known c k h =
    unit_known c.args.units c.fits-units.0 k (omega arith) ((bit_at-trailing_zeros w64 _ (omega arith) (omega arith)).2 k (omega arith))
