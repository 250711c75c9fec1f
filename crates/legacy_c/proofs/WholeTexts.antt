-- Texts that are all of a source.
use Rattle.std.proofs.Common.{◌≡◌, ◌∙◌, ℕ, List, length, take, ap}
use Rattle.std.specs.Str.{IsUtf8}
use Rattle.std.specs.Str.Lossy.{utf8_valid_len}
use Rattle.std.proofs.Math.Seq.{take-length}
use Rattle.std.proofs.lemmas.Str.{utf8_valid_len-IsUtf8}

pub whole_text : (bs : List ℕ) → IsUtf8 bs → utf8_valid_len bs ≡ length bs
whole_text bs h = utf8_valid_len-IsUtf8 bs h

pub all_valid : (bs : List ℕ) → IsUtf8 bs → take (utf8_valid_len bs) bs ≡ bs
all_valid bs h = ap (λ (n : ℕ). take n bs) (utf8_valid_len-IsUtf8 bs h) ∙ take-length bs
