-- A line buffer as its user sees it.
use Rattle.std.specs.Prelude.{ℕ, ◌-◌, List, length, take}
use Rattle.legacy_streams.specs.declared.lines.LineBuffer.{LineBuffer}

-- the bytes of the lines in a line buffer
abbrev pub line_bytes : LineBuffer → List ℕ
line_bytes buffer = take buffer.filled buffer.bytes

-- the number of bytes that still fit
abbrev pub line_room : LineBuffer → ℕ
line_room buffer = length buffer.bytes - buffer.filled
