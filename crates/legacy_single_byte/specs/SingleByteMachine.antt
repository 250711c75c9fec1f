-- The machine of a single-byte decoder, byte by byte.
use Rattle.std.specs.{Prelude.{ℕ, ◌-◌, List, [], ◌∷◌, if◌then◌else◌, option_to_list}, Char.is_ascii}
use Rattle.{legacy_base.specs.{Fronts.{reads, malformed, reads_or}, Grammar.single_byte}, legacy_tables.specs.Indexes.idx}
use Rattle.legacy_decoder_engine.specs.Steps.{no_pending, Step, finish, DecoderMachine}

-- the step at a byte
abbrev pub single_byte_first : List ℕ → ℕ → Step
single_byte_first table b =
    if is_ascii b then finish (reads 1 (b ∷ []))
    else finish (reads_or 1 (option_to_list (idx table (b - 0x80))) (malformed 1))

-- the machine
abbrev pub single_byte_machine : List ℕ → DecoderMachine
single_byte_machine table = record {
  pending = no_pending;
  step = λ held b. single_byte_first table b;
  to = λ held b. single_byte table;
}
