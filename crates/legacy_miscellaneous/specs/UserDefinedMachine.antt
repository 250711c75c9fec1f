-- The machine of the x-user-defined decoder, byte by byte.
use Rattle.std.specs.{Prelude.{ℕ, ◌+◌, ◌-◌, [], ◌∷◌, if◌then◌else◌}, Char.is_ascii}
use Rattle.{legacy_base.specs.{Fronts.reads, Grammar.user_defined}, legacy_decoder_engine.specs.Steps.{finish, no_pending, DecoderMachine}}

-- the code unit of a byte: ASCII is itself, 80 to FF are U+F780 to U+F7FF
abbrev pub unit_of_byte : ℕ → ℕ
unit_of_byte b = if is_ascii b then b else 0xF780 + (b - 0x80)

-- the machine: each byte is read by itself, by the same two cases, and nothing is held back
abbrev pub user_defined_machine : DecoderMachine
user_defined_machine = record {
  pending = no_pending;
  step = λ held b. if is_ascii b then finish (reads 1 (b ∷ [])) else finish (reads 1 ((0xF780 + (b - 0x80)) ∷ []));
  to = λ held b. user_defined;
}
