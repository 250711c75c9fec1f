use Rattle.std.proofs.{Common.{ap, ◌∙◌}, lemmas.{Bool.eqb-true, Nat.Bits.bit_at-zero}}
use Rattle.std.specs.Int.{bit_at}
use Rattle.legacy_decoder_engine.proofs.LaneUnits.{unit_known}
use Rattle.legacy_decoder_engine.proofs.lanes.are_known.Goals as goal

pub returns : goal.returns
returns c e k h = unit_known c.args.units c.fits-units.0 k h (ap (λ n. bit_at n k) (eqb-true _ _ e) ∙ bit_at-zero k)
