-- The encoding forms in which a destination takes scalars (Unicode, 3.9: UTF-8 and UTF-16).
use Rattle.std.specs.{Prelude.{ℕ, List, encode_utf8, flat_map, length}, Char.Escape.encode_utf16}

-- the two forms
pub data EncodingForm : Type 0 where
  Utf8 Utf16 : EncodingForm

-- the code units of a scalar: bytes in UTF-8, units of 16 bits in UTF-16
abbrev pub code_units : EncodingForm → ℕ → List ℕ
code_units Utf8 c = encode_utf8 c
code_units Utf16 c = encode_utf16 c

-- the number of code units of a scalar
abbrev pub unit_count : EncodingForm → ℕ → ℕ
unit_count form c = length (code_units form c)

-- the code units of scalars, one after another
abbrev pub all_code_units : EncodingForm → List ℕ → List ℕ
all_code_units form scalars = flat_map (code_units form) scalars

-- the number of code units of scalars
abbrev pub total_unit_count : EncodingForm → List ℕ → ℕ
total_unit_count form scalars = length (all_code_units form scalars)

-- the number of code units of U+FFFD, and of the longest scalar up to U+FFFF
abbrev pub bmp_need : EncodingForm → ℕ
bmp_need Utf8 = 3
bmp_need Utf16 = 1

-- the number of code units of the longest scalar
abbrev pub wide_need : EncodingForm → ℕ
wide_need Utf8 = 4
wide_need Utf16 = 2
