-- The text that is left in a source.
use Rattle.std.specs.{Prelude.{ℕ, List, drop}, Str.chars}
use Rattle.legacy_text.specs.{declared.text_source.{Utf8Source.Utf8Source, Utf16Source.Utf16Source}, Texts.unit_scalars}

-- the text
abbrev pub utf8_text : Utf8Source → List ℕ
utf8_text s = s.text.now

-- the number of its bytes that were passed
abbrev pub utf8_place : Utf8Source → ℕ
utf8_place s = s.place

-- the scalars that are left
abbrev pub utf8_left : Utf8Source → List ℕ
utf8_left s = chars (drop s.place s.text.now)

-- the code units
abbrev pub utf16_units : Utf16Source → List ℕ
utf16_units s = s.units.now

-- the number of code units that were passed
abbrev pub utf16_place : Utf16Source → ℕ
utf16_place s = s.place

-- the scalars that are left
abbrev pub utf16_left : Utf16Source → List ℕ
utf16_left s = unit_scalars (drop s.place s.units.now)
