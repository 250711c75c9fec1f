-- The model of the destinations over slices.
use Rattle.std.specs.{Prelude.{ℕ, ◌-◌, List, length, take}, Borrow.GName}
use Rattle.legacy_text.specs.declared.destination.{Utf8Destination.Utf8Destination, Utf16Destination.Utf16Destination}

-- the bytes that were written
abbrev pub utf8_written : Utf8Destination → List ℕ
utf8_written d = take d.filled d.buffer.now

-- the number of bytes that still fit
abbrev pub utf8_free : Utf8Destination → ℕ
utf8_free d = length d.buffer.now - d.filled

-- the name of the loan of the buffer
abbrev pub utf8_loan : Utf8Destination → GName
utf8_loan d = d.buffer.ghost_name

-- the contents of the whole buffer, also after the bytes written
abbrev pub utf8_buffer : Utf8Destination → List ℕ
utf8_buffer d = d.buffer.now

-- the code units that were written
abbrev pub utf16_written : Utf16Destination → List ℕ
utf16_written d = take d.filled d.buffer.now

-- the number of code units that still fit
abbrev pub utf16_free : Utf16Destination → ℕ
utf16_free d = length d.buffer.now - d.filled

-- the name of the loan of the buffer
abbrev pub utf16_loan : Utf16Destination → GName
utf16_loan d = d.buffer.ghost_name

-- the contents of the whole buffer, also after the code units written
abbrev pub utf16_buffer : Utf16Destination → List ℕ
utf16_buffer d = d.buffer.now
