-- The machine of the replacement decoder, byte by byte.
use Rattle.std.specs.Prelude.{[], Bool, true, if◌then◌else◌}
use Rattle.{legacy_base.specs.{Fronts.{reads, malformed}, Grammar.replacement}, legacy_decoder_engine.specs.Steps.{Step, finish, no_pending, DecoderMachine}}

-- the malformed sequence is reported once, and each later byte is dropped
abbrev pub replacement_first : Bool → Step
replacement_first reported = if reported then finish (reads 1 []) else finish (malformed 1)

-- the machine
abbrev pub replacement_machine : Bool → DecoderMachine
replacement_machine reported = record {
  pending = no_pending;
  step = λ held b. replacement_first reported;
  to = λ held b. replacement true;
}
