use Rattle.std.proofs.{Common.{arith, get_or, take, ◌≤◌}, lemmas.List.take_more}
use Rattle.legacy_decoder_engine.{specs.{Moves.read_need, declared.moves.Fed.TheVariants.Nothing}, proofs.CallUnderWay.{holds_more, holds_none}}
use Rattle.legacy_chinese.{specs.Gb18030Decoder.{gb18030_state, held_bytes}, proofs.Gb18030Held.{feeds, reads_wide}}
use Rattle.legacy_chinese.proofs.gb18030.decoder.Gb18030DecoderDecoderMoves.hold_back.Goals as goal

pub loop-at-preserved : goal.loop-at-preserved
loop-at-preserved g c =
    let form = g.T.Destination.form in
    let src = c.args.src.now in
    let at = c.loop-at.at in
    let tables = c.loop-at.self.tables.now in
    let held = c.loop-at.self.held in
    let byte = get_or src at 0 in
    let is = c.in-Some.ensures tables.flat.gb18030 tables.flat.ranges in
    let fed = feeds tables held byte (omega arith) is.0 Nothing (held_bytes c.in-Some.held) is.1 in
    let room : read_need form (gb18030_state c.loop-at.self) byte ≤ g.T.Destination.room c.args.dst.now =
    omega (arith, reads_wide tables form held byte, c.free.ensures, c.wide.ensures, c.if-free-wide.false) in
    let more = holds_more form _ _ _ _ (take at src) byte c.loop-at.invariant.holds fed room in
    record { within = omega (arith, c.loop-at-test.true); holds = rw (take_more src at 0 c.loop-at-test.true) more }

pub returns-then-free-wide : goal.returns-then-free-wide
returns-then-free-wide g c = record { within = omega arith; holds = holds_none _ _ _ }

pub loop-at-init : goal.loop-at-init
loop-at-init g c = record { within = omega arith; holds = holds_none _ _ _ }

pub returns-in_default : goal.returns-in_default
returns-in_default g c = record { within = c.loop-at.invariant.within; holds = c.loop-at.invariant.holds }

pub returns : goal.returns
returns g c = record { within = c.loop-at.invariant.within; holds = c.loop-at.invariant.holds }
