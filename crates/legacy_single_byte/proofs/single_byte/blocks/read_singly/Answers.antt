use Rattle.legacy_single_byte.proofs.SinglyRead.{none_singly, one_singly, reads_singly, room_singly}
use Rattle.legacy_single_byte.proofs.single_byte.blocks.read_singly.Goals as goal

pub loop-at-init : goal.loop-at-init
loop-at-init g c = none_singly g.T.Destination _ c.args.src.now c.args.most c.args.dst.now

pub put-requires : goal.put-requires
put-requires g c =
    room_singly c.loop-at.invariant c.requires.source c.requires.room c.loop-at-test.true c.in-Some.scalar c.in-Some.ensures.single

pub loop-at-preserved : goal.loop-at-preserved
loop-at-preserved g c =
    let e = c.put.ensures in
    one_singly c.loop-at.invariant c.requires.source c.requires.room c.loop-at-test.true c.in-Some.scalar c.in-Some.ensures.single e.contents e.room e.loan

pub returns-in-None : goal.returns-in-None
returns-in-None g c =
    let i = c.loop-at.invariant in
    record { most = i.within; units = i.narrow; ahead = reads_singly i c.requires.source c.requires.room }

pub returns : goal.returns
returns g c =
    let i = c.loop-at.invariant in
    record { most = i.within; units = i.narrow; ahead = reads_singly i c.requires.source c.requires.room }
