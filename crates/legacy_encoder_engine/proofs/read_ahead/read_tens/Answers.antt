use Rattle.std.proofs.Common.{arith}
use Rattle.legacy_encoder_engine.proofs.{ReadingAhead.{encodes_none}, WrittenUnits.{encodes_units}}
use Rattle.legacy_encoder_engine.proofs.read_ahead.read_tens.Goals as goal

pub returns-then-widest-gt12 : goal.returns-then-widest-gt12
returns-then-widest-gt12 g c = encodes_none c.requires

pub loop-dst-init : goal.loop-dst-init
loop-dst-init g c = encodes_none c.requires

pub returns-in_default : goal.returns-in_default
returns-in_default g c = c.loop-dst.invariant

pub put_ten-requires-clause-room : goal.put_ten-requires-clause-room
put_ten-requires-clause-room g c = omega arith

pub returns-in_default-put_ten : goal.returns-in_default-put_ten
returns-in_default-put_ten g c = rw c.in_default-put_ten.ensures c.loop-dst.invariant

pub returns-then-is_ascii : goal.returns-then-is_ascii
returns-then-is_ascii g c =
    let e = c.in-Some-put_ten.ensures in
    encodes_units c.loop-dst.invariant c.in-Some.ensures (rw c.loop-dst.auto.dst at e.2) (omega (arith, e.0)) (omega (arith, e.1))

pub loop-dst-preserved : goal.loop-dst-preserved
loop-dst-preserved g c =
    let e = c.in-Some-put_ten.ensures in
    encodes_units c.loop-dst.invariant c.in-Some.ensures (rw c.loop-dst.auto.dst at e.2) (omega (arith, e.0)) (omega (arith, e.1))

pub returns : goal.returns
returns g c = c.loop-dst.invariant
