use Rattle.std.proofs.Common.{arith}
use Rattle.legacy_japanese.proofs.Iso2022JpEncoderMoves.{asks_unmappable}
use Rattle.legacy_japanese.proofs.iso_2022_jp.encoder.asked_past_pairs.Goals as goal

pub returns-in_default-2 : goal.returns-in_default-2
returns-in_default-2 c = λ flat none. grind (arith, asks_unmappable flat c.args.c c.args.mode c.match-mode.settled none)
