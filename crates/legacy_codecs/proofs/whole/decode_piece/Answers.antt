use Rattle.legacy_codecs.proofs.WholePieces.{text_goes_on, read_whole, none_left}
use Rattle.legacy_codecs.proofs.whole.decode_piece.Goals as goal

pub returns-clause-text : goal.returns-clause-text
returns-clause-text g c later h =
    let call = c.decode_replacing_utf8-written.ensures.call in
    let room = c.requires in
    text_goes_on call (call.enough room.0 room.1 room.2 room.3 room.4) later h

pub returns-clause-end : goal.returns-clause-end
returns-clause-end g c is_last =
    let call = c.decode_replacing_utf8-written.ensures.call in
    let room = c.requires in
    none_left call (call.enough room.0 room.1 room.2 room.3 room.4) is_last

pub returns-clause-settled : goal.returns-clause-settled
returns-clause-settled g c =
    let call = c.decode_replacing_utf8-written.ensures.call in
    let room = c.requires in
    (call.allowed, (call.input_empty (call.enough room.0 room.1 room.2 room.3 room.4)).1)

pub returns-clause-call : goal.returns-clause-call
returns-clause-call g c =
    let call = c.decode_replacing_utf8-written.ensures.call in
    let room = c.requires in
    read_whole call (call.enough room.0 room.1 room.2 room.3 room.4)
