use Rattle.legacy_single_byte.proofs.MostlyRead.{next_mostly, none_mostly, past_there, reads_mostly, reads_more_mostly, room_left, stored_ascii}
use Rattle.legacy_single_byte.proofs.single_byte.blocks.read_mostly_ascii.Goals as goal

pub loop-at-init : goal.loop-at-init
loop-at-init g c =
    let e = c.requires in
    none_mostly c.args.scalars.now.table.now g.T.Destination c.args.src.now c.args.end c.args.bits c.args.dst.now e.end e.source e.room e.bits

pub put_block-requires-clause-ascii : goal.put_block-requires-clause-ascii
put_block-requires-clause-ascii g c =
    let i = c.loop-at.invariant in
    let n = c.min-count in
    let ascii = c.ascii_front.ensures.ascii c.args.src.now c.loop-at.at i.bits in
    stored_ascii _ i c.requires.room c.requires.source n.result c.ascii_front.result n.ensures ascii

pub returns-then-at-end-clause-ahead : goal.returns-then-at-end-clause-ahead
returns-then-at-end-clause-ahead g c =
    let i = c.loop-at.invariant in
    let n = c.min-count in
    let ascii = c.ascii_front.ensures.ascii c.args.src.now c.loop-at.at i.bits in
    let b = c.put_block.ensures in
    rw c.ended.ensures.read
    (reads_mostly _ i c.requires.room c.requires.source n.result c.ascii_front.result n.ensures ascii b.contents b.room b.loan)

pub put_past-requires-clause-past : goal.put_past-requires-clause-past
put_past-requires-clause-past g c =
    let i = c.loop-at.invariant in
    let n = c.min-count in
    let ascii = c.ascii_front.ensures.ascii c.args.src.now c.loop-at.at i.bits in
    let stops = c.ascii_front.ensures.stops c.args.src.now c.loop-at.at i.bits in
    past_there _ i c.requires.room c.requires.source n.result c.ascii_front.result n.ensures ascii stops c.if-at-end.false

pub put_past-requires-clause-room : goal.put_past-requires-clause-room
put_past-requires-clause-room g c =
    let i = c.loop-at.invariant in
    let n = c.min-count in
    let ascii = c.ascii_front.ensures.ascii c.args.src.now c.loop-at.at i.bits in
    let b = c.put_block.ensures in
    room_left _ i c.requires.room c.requires.source n.result c.ascii_front.result n.ensures ascii b.contents b.room b.loan

pub returns-then-not-put_past-clause-ahead : goal.returns-then-not-put_past-clause-ahead
returns-then-not-put_past-clause-ahead g c =
    let i = c.loop-at.invariant in
    let n = c.min-count in
    let ascii = c.ascii_front.ensures.ascii c.args.src.now c.loop-at.at i.bits in
    let b = c.put_block.ensures in
    rw (c.put_past.ensures.none c.if-not-put_past.true)
    (reads_mostly _ i c.requires.room c.requires.source n.result c.ascii_front.result n.ensures ascii b.contents b.room b.loan)

pub returns-then-at-end-2-clause-ahead : goal.returns-then-at-end-2-clause-ahead
returns-then-at-end-2-clause-ahead g c =
    let i = c.loop-at.invariant in
    let n = c.min-count in
    let ascii = c.ascii_front.ensures.ascii c.args.src.now c.loop-at.at i.bits in
    let b = c.put_block.ensures in
    let put = c.put_past.ensures.some c.if-not-put_past.false in
    reads_more_mostly _ i c.requires.room c.requires.source n.result c.ascii_front.result n.ensures ascii b.contents b.room b.loan put.0 put.1

pub loop-at-preserved : goal.loop-at-preserved
loop-at-preserved g c =
    let i = c.loop-at.invariant in
    let n = c.min-count in
    let ascii = c.ascii_front.ensures.ascii c.args.src.now c.loop-at.at i.bits in
    let b = c.put_block.ensures in
    let put = c.put_past.ensures.some c.if-not-put_past.false in
    next_mostly _ i c.requires.room c.requires.source n.result c.ascii_front.result n.ensures ascii b.contents b.room b.loan put.0 put.1 c.free.result
    c.past_after-past.result c.if-at-end.false c.if-src-at-lt64.false c.free.ensures
    c.if-free.false (c.past_after-past.ensures c.args.src.now c.loop-at.at i.bits)
