-- Sequences of four bytes of gb18030: their pointers (Encoding Standard, "gb18030 decoder").
use Rattle.std.specs.{Prelude.{ℕ, ◌+◌, ◌-◌, ◌*◌, if◌then◌else◌}, Char.is_ascii_digit}
use Rattle.legacy_base.specs.States.{is_lead}

-- The pointer is a sum of parts of the bytes. A byte that is not allowed there has a part past all pointers.

-- the part of a first or a third byte
unfoldable pub lead_part : ℕ → ℕ
lead_part byte = if is_lead byte then 10 * (byte - 0x81) else 1_240_000

-- the part of a second or a fourth byte
unfoldable pub digit_part : ℕ → ℕ
digit_part byte = if is_ascii_digit byte then byte - 0x30 else 1_240_000

-- the pointer
abbrev pub four_place : ℕ → ℕ → ℕ → ℕ → ℕ
four_place first second third fourth = 1260 * (lead_part first + digit_part second) + (lead_part third + digit_part fourth)
