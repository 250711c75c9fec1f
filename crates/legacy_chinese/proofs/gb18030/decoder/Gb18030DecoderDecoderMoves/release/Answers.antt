use Rattle.{std.proofs.Common.{[], ◌∷◌, refl}, legacy_chinese.proofs.Gb18030Held.releases}
use Rattle.legacy_chinese.proofs.gb18030.decoder.Gb18030DecoderDecoderMoves.release.Goals as goal

pub returns-in-Digit : goal.returns-in-Digit
returns-in-Digit c = rw c.from.ensures (releases c.args.self.now.tables.now c.args.self.now.held c.in-Digit.digit [] (rw c.in-Digit.is refl))

pub returns-in-DigitLead : goal.returns-in-DigitLead
returns-in-DigitLead c =
    let both = c.in-DigitLead in
    rw c.from-in-DigitLead.ensures
    (releases c.args.self.now.tables.now c.args.self.now.held both.digit (both.lead.byte ∷ []) (rw both.is refl))
