use Rattle.std.proofs.Common.{◌≡◌, ℕ, ◌<◌, ap, arith, length}
use Rattle.legacy_miscellaneous.{specs.Utf16Decoder.held_bytes, proofs.Utf16Held.reports}
use Rattle.legacy_miscellaneous.proofs.utf16.decoder.Utf16DecoderDecoderMoves.report.Goals.{in-Odd, in-High, in-HighOdd}
use Rattle.legacy_miscellaneous.proofs.utf16.decoder.Utf16DecoderDecoderMoves.report.Goals as goal

pub returns : goal.returns
returns c =
    let be = c.args.self.now.big_endian in
    let held = c.args.self.now.held in
    let whole = λ (n : ℕ) (some : 0 < n) (e : length (held_bytes be held) ≡ n).
    rw e at (reports be held c.requires (λ none. absurd (omega (arith, ap length none, e, some)))) in
    elim c.match-self.branch [
      | in-Odd w ↦ rw w.length-is (whole 1 (omega arith) (ap (λ h. length (held_bytes be h)) w.in-Odd.is))
      | in-High w ↦ rw w.length-is (whole 2 (omega arith) (ap (λ h. length (held_bytes be h)) w.in-High.is))
      | in-HighOdd w ↦ rw w.length-is (whole 3 (omega arith) (ap (λ h. length (held_bytes be h)) w.in-HighOdd.is))
    ]
