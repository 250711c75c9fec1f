-- The entry of each byte, also of ASCII, for a single-byte table.
use Rattle.std.specs.Prelude.{◌≡◌, ◌<◌, ◌≤◌, ℕ, ◌-◌, List, slice_index}
use Rattle.legacy_text.specs.UnitBytes.{IsUtf8Entry}

-- the byte itself if it is ASCII, and the table's entry otherwise
abbrev pub IsByteEntry : List ℕ → ℕ → ℕ → Type 0
IsByteEntry table byte entry = (byte < 0x80 → entry ≡ byte) × (0x80 ≤ byte → entry ≡ slice_index table (byte - 0x80))

-- the first n entries are those of the first n bytes
abbrev pub AreByteEntries : List ℕ → List ℕ → ℕ → Type 0
AreByteEntries table entries n = (byte : ℕ) → byte < n → IsByteEntry table byte (slice_index entries byte)

-- the first n of these entries are those of the table's first n places in UTF-8
abbrev pub AreUtf8Entries : List ℕ → List ℕ → ℕ → Type 0
AreUtf8Entries table utf8 n = (place : ℕ) → place < n → IsUtf8Entry (slice_index table place) (slice_index utf8 place)
