use Rattle.std.proofs.Common.{◌≡◌, ◌^◌, ◌-◌, ◌<◌, length}
use Rattle.std.specs.Io.KnownBytes.{Appends}
use Rattle.legacy_codecs.specs.Replacing.{has_malformed}
use Rattle.legacy_streams.specs.Text.{text_in_utf8}
use Rattle.legacy_streams.proofs.Whole.{Whole}
use Rattle.legacy_streams.proofs.text.recode_text.Given as goal

abbrev pub invariant-pieces : goal.invariant-pieces
invariant-pieces g l = record {
  whole : Whole (g.D.RawDecoder.state l.fn.decoder) l.total (g.D.RawDecoder.state l.decoder) (g.R.Read.remaining l.fn.input) (g.R.Read.remaining l.input)
      (λ events. (l.any_replaced ≡ has_malformed events) × Appends (g.W.Write.contents l.fn.output) (g.W.Write.contents l.output) (text_in_utf8 events));
  long : length l.buffer ≡ 4096;
  small : l.total < 2 ^ 64;
}

abbrev pub decreases-pieces : goal.decreases-pieces
decreases-pieces g l = 2 ^ 64 - l.total
