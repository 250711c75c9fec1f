-- The machine of the UTF-16 decoders, byte by byte.
use Rattle.std.specs.Prelude.{ℕ, List, [], ◌∷◌, Bool, Option, Some, None, if◌then◌else◌}
use Rattle.std.specs.Char.Utf16.{is_high_surrogate, is_low_surrogate, surrogate_pair_char}
use Rattle.{legacy_base.specs.{Fronts.{reads, malformed}, Utf16.unit_of, Grammar.utf16}, legacy_decoder_engine.specs.Steps.{Step, hold, finish, DecoderMachine}}

-- a held-back unit that is not a high surrogate, which is to be written
abbrev pub utf16_pending : Bool → List ℕ → Option (ℕ × ℕ)
utf16_pending big_endian (a ∷ b ∷ []) = if is_high_surrogate (unit_of big_endian a b) then None else Some (2, unit_of big_endian a b)
utf16_pending big_endian _ = None

-- the step at a byte after these held-back bytes
abbrev pub utf16_step : Bool → List ℕ → ℕ → Step
utf16_step big_endian [] b = hold
utf16_step big_endian (a ∷ []) b =
    if is_high_surrogate (unit_of big_endian a b) then hold
    else if is_low_surrogate (unit_of big_endian a b) then finish (malformed 2)
    else finish (reads 2 (unit_of big_endian a b ∷ []))
utf16_step big_endian (a ∷ b ∷ []) c = hold
utf16_step big_endian (a ∷ b ∷ c ∷ held) d =
    if is_low_surrogate (unit_of big_endian c d)
    then finish (reads 4 (surrogate_pair_char (unit_of big_endian a b) (unit_of big_endian c d) ∷ []))
    else finish (malformed 2)

-- the machine, by the byte order
abbrev pub utf16_machine : Bool → DecoderMachine
utf16_machine big_endian = record {
  pending = utf16_pending big_endian;
  step = utf16_step big_endian;
  to = λ held b. utf16 big_endian;
}
