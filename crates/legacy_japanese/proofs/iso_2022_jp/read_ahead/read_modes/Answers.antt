use Rattle.legacy_japanese.proofs.Iso2022JpAhead.{reads_on, reads_end}
use Rattle.std.proofs.Common.{arith}
use Rattle.legacy_japanese.proofs.iso_2022_jp.read_ahead.read_modes.Goals as goal

pub loop-escape-preserved : goal.loop-escape-preserved
loop-escape-preserved g c =
    reads_on _ c.args.first c.loop-escape.mode _ _ c.args.src.now _ _ c.mode-next.ensures c.in-Some.ensures (omega (arith, c.if-read-eq0.false))
    c.loop-escape.invariant c.read_begun-read.ensures

pub returns-then-read-eq0 : goal.returns-then-read-eq0
returns-then-read-eq0 g c = reads_end c.if-read-eq0.true c.loop-escape.invariant c.read_begun-read.ensures

pub loop-escape-init : goal.loop-escape-init
loop-escape-init g c = c.read_begun-at.ensures

pub returns-in_default : goal.returns-in_default
returns-in_default g c = c.loop-escape.invariant
