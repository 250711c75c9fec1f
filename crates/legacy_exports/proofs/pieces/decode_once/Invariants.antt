use Rattle.std.proofs.Common.{◌≤◌, ◌+◌, ◌-◌, ◌++◌, length, drop, take}
use Rattle.legacy_base.specs.Grammar.{events_of}
use Rattle.legacy_exports.proofs.DecodingLaws.{Conversion}
use Rattle.legacy_exports.proofs.pieces.decode_once.Given as goal

-- what was read up to now was decoded, and its code units are at the beginning of the output
abbrev pub invariant-pieces : goal.invariant-pieces
invariant-pieces g l = record {
  conversion : Conversion g.C.DecoderCalls.kind g.U.CodeUnit.form l.reading.source.now (length l.fn.output) (g.D.RawDecoder.state l.fn.decoder)
      (g.D.RawDecoder.state l.decoder)
      l.read
      (g.U.CodeUnit.units (take l.written l.output));
  within_piece : l.read ≤ l.end;
  within_source : l.end ≤ length l.reading.source.now;
  within_output : l.written ≤ length l.output;
}

abbrev pub decreases-pieces : goal.decreases-pieces
decreases-pieces g l =
    let s = g.D.RawDecoder.state l.decoder in length (events_of s.grammar (s.held ++ drop l.read l.reading.source.now)) + (length l.reading.source.now - l.end)
