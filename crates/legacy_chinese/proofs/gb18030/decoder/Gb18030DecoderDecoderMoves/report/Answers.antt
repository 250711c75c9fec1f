use Rattle.{std.proofs.Common.{ap, arith, length}, legacy_chinese.proofs.Gb18030Held.{ends_none, reports}}
use Rattle.legacy_chinese.proofs.gb18030.decoder.Gb18030DecoderDecoderMoves.report.Goals as goal

pub returns-then-length-eq0 : goal.returns-then-length-eq0
returns-then-length-eq0 c = ends_none c.args.self.now.tables.now c.args.self.now.held (omega (arith, c.held_length-length.ensures))

pub returns : goal.returns
returns c =
    let is = c.held_length-length.ensures in
    rw is (reports c.args.self.now.tables.now c.args.self.now.held c.requires (λ none. absurd (omega (arith, ap length none, is))))
