use Rattle.std.proofs.Common.{◌^◌, ◌-◌, ◌<◌, ◌≡◌, [], take, length}
use Rattle.legacy_streams.specs.Waiting.{waiting_bytes}
use Rattle.legacy_streams.proofs.EncodingUnderWay.{InputUnderWay}
use Rattle.legacy_streams.proofs.encode.encode_text.Given as goal

abbrev pub invariant-pieces : goal.invariant-pieces
invariant-pieces g l = record {
  so_far : InputUnderWay (g.E.RawEncoder.state l.fn.encoder) (g.E.RawEncoder.state l.encoder) (take l.held l.buffer)
      (g.R.Read.remaining l.fn.input) (g.R.Read.remaining l.input) (g.W.Write.contents l.fn.output) (g.W.Write.contents l.output);
  short : l.held < 4;
  empty : waiting_bytes l.encoded ≡ [];
  long : length l.buffer ≡ 4096;
  small : l.total < 2 ^ 64;
}

abbrev pub decreases-pieces : goal.decreases-pieces
decreases-pieces g l = 2 ^ 64 - l.total
