use Rattle.std.proofs.Common.{arith, subst, length-take}
use Rattle.std.proofs.lemmas.List.{get_or-take}
use Rattle.legacy_base.specs.Calls.{IsMalformedByte}
use Rattle.legacy_streams.proofs.recode.lines_of_malformed_bytes.Goals as goal

pub push_malformed_bytes-requires-clause-place : goal.push_malformed_bytes-requires-clause-place
push_malformed_bytes-requires-clause-place g c =
    omega (arith, c.requires.total, c.malformed_bytes-count.ensures.count, length-take c.min-most.result c.args.unread.now)

pub push_malformed_bytes-requires-clause-room : goal.push_malformed_bytes-requires-clause-room
push_malformed_bytes-requires-clause-room g c =
    omega (arith, c.requires.room, c.malformed_bytes-count.ensures.count, length-take c.min-most.result c.args.unread.now, c.min-most.ensures)

pub returns-clause-count : goal.returns-clause-count
returns-clause-count g c = omega (arith, c.malformed_bytes-count.ensures.count, length-take c.min-most.result c.args.unread.now)

pub returns-clause-malformed_byte : goal.returns-clause-malformed_byte
returns-clause-malformed_byte g c k h =
    let most = c.min-most.result in
    let within = c.malformed_bytes-count.ensures.count in
    subst (IsMalformedByte (g.D.RawDecoder.state c.args.decoder.now))
    (get_or-take most c.args.unread.now k 0 (omega (arith, within, h, length-take most c.args.unread.now)))
    (c.malformed_bytes-count.ensures.malformed_byte k h)

pub returns-clause-text : goal.returns-clause-text
returns-clause-text g c = c.push_malformed_bytes.ensures.text

pub returns-clause-room : goal.returns-clause-room
returns-clause-room g c =
    omega (
      arith,
      c.requires.room,
      c.push_malformed_bytes.ensures.room,
      c.malformed_bytes-count.ensures.count,
      length-take c.min-most.result c.args.unread.now,
      c.min-most.ensures,
    )
