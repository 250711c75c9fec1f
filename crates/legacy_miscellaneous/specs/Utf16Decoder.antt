-- The state of the UTF-16 decoders between two calls.
use Rattle.std.specs.Prelude.{◌≡◌, ℕ, ◌+◌, ◌*◌, ◌<◌, length, slice_index, ◌/◌, ◌%◌, List, [], ◌∷◌, Bool, if◌then◌else◌}
use Rattle.{legacy_base.specs.{Grammar.utf16, States.DecoderState, Utf16.unit_of}, legacy_miscellaneous.specs.declared.utf16.decoder.Utf16Decoder.Utf16Decoder}
use Rattle.legacy_miscellaneous.specs.declared.utf16.held_bytes.Held.{Held, TheVariants.{Nothing, Odd, High, HighOdd, Pending}}

-- the first byte of a unit, in the byte order
abbrev pub first_byte : Bool → ℕ → ℕ
first_byte big_endian u = if big_endian then u / 0x100 else u % 0x100

-- the second byte of a unit, in the byte order
abbrev pub second_byte : Bool → ℕ → ℕ
second_byte big_endian u = if big_endian then u % 0x100 else u / 0x100

-- the held-back bytes
abbrev pub held_bytes : Bool → Held → List ℕ
held_bytes big_endian Nothing = []
held_bytes big_endian (Odd odd) = odd.byte ∷ []
held_bytes big_endian (High high) = first_byte big_endian high.unit ∷ second_byte big_endian high.unit ∷ []
held_bytes big_endian (HighOdd high odd) = first_byte big_endian high.unit ∷ second_byte big_endian high.unit ∷ odd.byte ∷ []
held_bytes big_endian (Pending pending) = first_byte big_endian pending.scalar ∷ second_byte big_endian pending.scalar ∷ []

-- the state that the laws of its calls use
abbrev pub utf16_state : Utf16Decoder → DecoderState
utf16_state decoder = record { grammar = utf16 decoder.big_endian; held = held_bytes decoder.big_endian decoder.held }

-- the unit at an index
abbrev pub unit_at : Bool → List ℕ → ℕ → ℕ
unit_at big_endian bytes k = unit_of big_endian (slice_index bytes (2 * k)) (slice_index bytes (2 * k + 1))

-- the number is the unit if one of both is ASCII
abbrev pub KeepsAscii : ℕ → ℕ → Type 0
KeepsAscii unit number = (number < 0x80 → unit ≡ number) × (unit < 0x80 → unit ≡ number)

-- each of the first n numbers of the block is the unit at its index, if one of both is ASCII
abbrev pub HasAsciiUnits : Bool → List ℕ → List ℕ → ℕ → Type 0
HasAsciiUnits big_endian bytes block n = (k : ℕ) → k < n → KeepsAscii (unit_at big_endian bytes k) (slice_index block k)

-- each number is below n
abbrev pub AreBelow : ℕ → List ℕ → Type 0
AreBelow n units = (k : ℕ) → k < length units → slice_index units k < n

-- each of the first `count` units of the bytes is below the bound
abbrev pub AreUnitsBelow : Bool → List ℕ → ℕ → ℕ → Type 0
AreUnitsBelow big_endian bytes count bound = (k : ℕ) → k < count → unit_at big_endian bytes k < bound
