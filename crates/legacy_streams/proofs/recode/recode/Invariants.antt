use Rattle.std.proofs.Common.{[], ◌≡◌, ◌^◌, ◌-◌, ◌<◌, length}
use Rattle.std.specs.Io.KnownBytes.{Appends}
use Rattle.legacy_streams.specs.{LineBuffers.line_bytes, Recoding.lines_of}
use Rattle.legacy_streams.proofs.Whole.{Whole}
use Rattle.legacy_streams.proofs.recode.recode.Given as goal

abbrev pub invariant-pieces : goal.invariant-pieces
invariant-pieces g l =
    let before = g.D.RawDecoder.state l.fn.decoder in
    record {
      whole : Whole before l.total (g.D.RawDecoder.state l.decoder) (g.R.Read.remaining l.fn.input) (g.R.Read.remaining l.input)
          (λ events. Appends (g.W.Write.contents l.fn.output) (g.W.Write.contents l.output) (lines_of before events));
      long : length l.buffer ≡ 4096;
      small : l.total < 2 ^ 64;
      empty : line_bytes l.lines ≡ [];
    }

abbrev pub decreases-pieces : goal.decreases-pieces
decreases-pieces g l = 2 ^ 64 - l.total
