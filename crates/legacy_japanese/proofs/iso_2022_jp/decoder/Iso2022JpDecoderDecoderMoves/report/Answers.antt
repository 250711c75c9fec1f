use Rattle.legacy_japanese.proofs.Iso2022JpEnding.{ends_reports, finish_sound}
use Rattle.legacy_japanese.proofs.iso_2022_jp.decoder.Iso2022JpDecoderDecoderMoves.report.Goals as goal

pub invariant_of-self : goal.invariant_of-self
invariant_of-self c =
    let self = c.args.self.now in
    let end = rw (← c.in_ok-mode.ensures) at (finish_sound self.mode self.held) in record { sound = end.kept }

pub returns : goal.returns
returns c =
    let self = c.args.self.now in
    rw c.count.ensures (ends_reports self.tables.now.flat.jis0208 self.mode self.held self.sound _ _ c.requires c.in_ok-mode.ensures)
