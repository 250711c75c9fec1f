use Rattle.std.proofs.Common.{◌∙◌, ap, length, sym}
use Rattle.legacy_japanese.proofs.EucJpHeld.{ends_none, reports}
use Rattle.legacy_japanese.proofs.euc_jp.decoder.EucJpDecoderDecoderMoves.report.Goals as goal

pub returns-then-length-eq0 : goal.returns-then-length-eq0
returns-then-length-eq0 c =
    let self = c.args.self.now in ends_none self.tables.now self.held (sym c.held_length-length.ensures ∙ c.if-length-eq0.true)

pub returns : goal.returns
returns c =
    let self = c.args.self.now in
    let e = c.held_length-length.ensures in rw e (reports self.tables.now self.held (λ none. c.if-length-eq0.false (e ∙ ap length none)))
