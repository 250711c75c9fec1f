use Rattle.std.proofs.Common.{◌∙◌, ◌≤◌, length, arith, sym}
use Rattle.legacy_uses_tests.proofs.tests.callers.piece_gives.Goals as goal

pub decode_piece-written-requires : goal.decode_piece-written-requires
decode_piece-written-requires g c =
    let room : c.in-Some.need ≤ length c.as_mut_slice.result.now = omega (arith, c.as_mut_slice.ensures.len, c.in-Ok.ensures.len) in
    (length c.args.piece.now, c.in-Some.need, omega arith, sym c.max_utf8_buffer_length.ensures ∙ c.in-Some.is, room)
