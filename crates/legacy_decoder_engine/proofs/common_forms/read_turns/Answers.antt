use Rattle.std.proofs.Common.{arith}
use Rattle.legacy_decoder_engine.proofs.WrittenReads.{writes_none, writes_one, writes_two, three_fit, short}
use Rattle.legacy_decoder_engine.proofs.common_forms.read_turns.Goals.{in-Pair, in-Single+else-byte-next-lt128}
use Rattle.legacy_decoder_engine.proofs.common_forms.read_turns.Goals as goal

pub loop-left-init : goal.loop-left-init
loop-left-init g c = (omega arith, omega arith, omega arith, writes_none g.T.Destination _ _)

pub put-requires : goal.put-requires
put-requires g c = three_fit g.T.Destination.form _ _ c.in-Pair.ensures.0 (omega arith)

pub put-requires-in-Single : goal.put-requires-in-Single
put-requires-in-Single g c = three_fit g.T.Destination.form _ _ c.in-Single.ensures.0 (omega arith)

pub returns-then-byte-next-lt128-clause-writes : goal.returns-then-byte-next-lt128-clause-writes
returns-then-byte-next-lt128-clause-writes g c =
    let e = c.put-in-Single.ensures in
    writes_one g.T.Destination c.args.src.now c.loop-left.at _ (omega arith) c.loop-left.invariant.3 c.in-Single.ensures.1 e.contents e.room e.loan

pub returns-then-byte-next-lt128-clause-slack : goal.returns-then-byte-next-lt128-clause-slack
returns-then-byte-next-lt128-clause-slack g c = omega (arith, short g.T.Destination.form c.in-Single.c c.in-Single.ensures.0)

pub returns-in-Other-clause-writes : goal.returns-in-Other-clause-writes
returns-in-Other-clause-writes g c = c.loop-left.invariant.3

pub loop-left-preserved : goal.loop-left-preserved
loop-left-preserved g c =
    let T = g.T.Destination in
    let at = c.loop-left.at in
    let i = c.loop-left.invariant in
    elim c.match-form.branch [
      | in-Pair w ↦
          let few = short T.form w.in-Pair.c w.in-Pair.ensures.0 in
          let e = w.put.ensures in
          let writes = writes_two T c.args.src.now at _ (omega arith) i.3 w.in-Pair.ensures.1 e.contents e.room e.loan in
          rw (w.at-is, w.dst-is) (omega arith, omega arith, omega arith, writes)
      | in-Single+else-byte-next-lt128 w ↦
          let few = short T.form w.in-Single.c w.in-Single.ensures.0 in
          let e = w.put-in-Single.ensures in
          let writes = writes_one T c.args.src.now at _ (omega arith) i.3 w.in-Single.ensures.1 e.contents e.room e.loan in
          rw (w.at-is, w.dst-is) (omega arith, omega arith, omega arith, writes)
    ]

pub returns-clause-writes : goal.returns-clause-writes
returns-clause-writes g c = c.loop-left.invariant.3
