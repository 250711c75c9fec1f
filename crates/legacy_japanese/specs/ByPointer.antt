-- The scalars whose codes in Shift_JIS, EUC-JP and ISO-2022-JP are those of their own pointers in jis0208.
use Rattle.std.specs.Prelude.{ℕ}
use Rattle.legacy_encoder_engine.specs.CachedPairs.{IsOutside}

-- all scalars except ASCII, U+0080, the yen sign, the overline, the minus sign and the half-width katakana
pub record GoesByPointer (c : ℕ) : Type 0 where
  pub ascii : IsOutside 0 0x81 c
  pub yen : IsOutside 0xA5 0xA6 c
  pub overline : IsOutside 0x203E 0x203F c
  pub minus : IsOutside 0x2212 0x2213 c
  pub katakana : IsOutside 0xFF61 0xFFA0 c
