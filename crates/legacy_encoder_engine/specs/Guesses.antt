-- The range that an encoder keeps from one scalar to the next.
use Rattle.std.specs.Prelude.{ℕ, List, []}
use Rattle.legacy_tables.specs.declared.tables.ranges.RangePart.{RangePart}
use Rattle.legacy_tables.specs.RangeParts.{IsRangePart}
use Rattle.legacy_base.specs.Encoders.{Codec, gb18030, gbk}

-- the ranges that a codec has
abbrev pub codec_ranges : Codec → List (ℕ × ℕ)
codec_ranges (gb18030 index ranges pua) = ranges
codec_ranges (gbk index ranges pua) = ranges
codec_ranges _ = []

-- the range that is kept is a part of them
abbrev pub IsGuess : Codec → RangePart → Type 0
IsGuess codec guess = IsRangePart (codec_ranges codec) guess
