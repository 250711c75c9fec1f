use Rattle.std.proofs.Common.{arith, refl}
use Rattle.legacy_decoder_engine.proofs.CallUnderWay.{holds_none}
use Rattle.legacy_japanese.proofs.iso_2022_jp.decoder.Iso2022JpDecoderDecoderMoves.hold_back.Goals as goal

pub returns-then-not-is_nothing : goal.returns-then-not-is_nothing
returns-then-not-is_nothing g c = record { within = omega arith; holds = holds_none _ _ _ }

pub returns-in_default : goal.returns-in_default
returns-in_default g c = record { within = omega arith; holds = holds_none _ _ _ }

pub invariant_of-self : goal.invariant_of-self
invariant_of-self g c = record { sound = refl }
