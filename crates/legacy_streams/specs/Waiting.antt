-- A buffer of encoded bytes as its user sees it.
use Rattle.std.specs.Prelude.{ℕ, ◌-◌, List, length, take}
use Rattle.legacy_streams.specs.declared.encoded.EncodedBytes.{EncodedBytes}

-- the bytes that wait to be written
abbrev pub waiting_bytes : EncodedBytes → List ℕ
waiting_bytes buffer = take buffer.filled buffer.bytes

-- the number of bytes that still fit
abbrev pub free_count : EncodedBytes → ℕ
free_count buffer = length buffer.bytes - buffer.filled
