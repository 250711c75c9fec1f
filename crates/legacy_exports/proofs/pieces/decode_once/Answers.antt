use Rattle.std.proofs.Common.{[], arith, rules}
use Rattle.legacy_exports.proofs.DecodingLaws.{conversion_start, after_read, after_replaced, in_piece, whole_piece, no_more_events, fewer_events}
use Rattle.legacy_exports.proofs.DecodingLaws.{at_end, at_full, none_later, at_length}
use Rattle.legacy_exports.proofs.OutputParts.{front_of_units, free_after}
use Rattle.legacy_exports.proofs.pieces.decode_once.Goals as goal

pub pieces-init : goal.pieces-init
pieces-init g c = record {
  conversion = conversion_start _ _ _ _ _ _ (g.met.U.CodeUnit.units_length []);
  within_piece = omega arith;
  within_source = omega arith;
  within_output = omega arith;
}

pub returns-then-last-clause-text : goal.returns-then-last-clause-text
returns-then-last-clause-text g c =
    let i = c.pieces.invariant in
    let front = front_of_units g.U.CodeUnit.units g.met.U.CodeUnit.units_append c.pieces.written _ c.decode-answer.result.2 c.pieces.output
    c.decode-answer.new.output i.within_output c.decode-answer.ensures.written in
    let last = at_length c.pieces.end c.args.reading.now.source.now c.if-last.true in
    at_end i.conversion c.decode-answer.ensures.call i.within_piece (none_later c.pieces.end c.args.reading.now.source.now) _ front
    (free_after g.U.CodeUnit.units g.met.U.CodeUnit.units_length c.pieces.written _ c.pieces.output i.within_output c.pieces.auto.output)
    c.in-Read.is last

pub pieces-smaller-in-Read : goal.pieces-smaller-in-Read
pieces-smaller-in-Read g c =
    let i = c.pieces.invariant in
    let few = no_more_events i.conversion c.decode-answer.ensures.call i.within_piece (none_later c.pieces.end c.args.reading.now.source.now) in
    let all = whole_piece i.conversion c.decode-answer.ensures.call i.within_piece (none_later c.pieces.end c.args.reading.now.source.now) c.in-Read.is
    i.within_source in
    omega (arith, few, all, i.within_source, c.if-last.false, c.piece_end-end-in-Read.ensures)

pub pieces-preserved-in-Read : goal.pieces-preserved-in-Read
pieces-preserved-in-Read g c =
    let i = c.pieces.invariant in
    let front = front_of_units g.U.CodeUnit.units g.met.U.CodeUnit.units_append c.pieces.written _ c.decode-answer.result.2 c.pieces.output
    c.decode-answer.new.output i.within_output c.decode-answer.ensures.written in
    record {
      conversion = after_read i.conversion c.decode-answer.ensures.call i.within_piece (none_later c.pieces.end c.args.reading.now.source.now) _ front
          (free_after g.U.CodeUnit.units g.met.U.CodeUnit.units_length c.pieces.written _ c.pieces.output i.within_output c.pieces.auto.output)
          c.in-Read.is;
      within_piece = omega arith;
      within_source = omega arith;
      within_output = search rules;
    }

pub returns-in-Full-clause-text : goal.returns-in-Full-clause-text
returns-in-Full-clause-text g c =
    let i = c.pieces.invariant in
    let front = front_of_units g.U.CodeUnit.units g.met.U.CodeUnit.units_append c.pieces.written _ c.decode-answer.result.2 c.pieces.output
    c.decode-answer.new.output i.within_output c.decode-answer.ensures.written in
    at_full i.conversion c.decode-answer.ensures.call i.within_piece (none_later c.pieces.end c.args.reading.now.source.now) _ front
    (free_after g.U.CodeUnit.units g.met.U.CodeUnit.units_length c.pieces.written _ c.pieces.output i.within_output c.pieces.auto.output) c.in-Full.is

pub pieces-smaller : goal.pieces-smaller
pieces-smaller g c =
    let i = c.pieces.invariant in
    let few = fewer_events i.conversion c.decode-answer.ensures.call i.within_piece (none_later c.pieces.end c.args.reading.now.source.now) c.in-Replaced.is in
    omega (arith, few)

pub pieces-preserved : goal.pieces-preserved
pieces-preserved g c =
    let i = c.pieces.invariant in
    let front = front_of_units g.U.CodeUnit.units g.met.U.CodeUnit.units_append c.pieces.written _ c.decode-answer.result.2 c.pieces.output
    c.decode-answer.new.output i.within_output c.decode-answer.ensures.written in
    record {
      conversion = after_replaced i.conversion c.decode-answer.ensures.call i.within_piece (none_later c.pieces.end c.args.reading.now.source.now) _ front
          (free_after g.U.CodeUnit.units g.met.U.CodeUnit.units_length c.pieces.written _ c.pieces.output i.within_output c.pieces.auto.output)
          c.in-Replaced.is;
      within_piece = in_piece i.conversion c.decode-answer.ensures.call i.within_piece (none_later c.pieces.end c.args.reading.now.source.now) i.within_source;
      within_source = i.within_source;
      within_output = search rules;
    }
