-- The machine of the gb18030 decoder, byte by byte.
use Rattle.std.specs.{Prelude.{ℕ, List, [], ◌∷◌, Option, Some, None, ◌==◌, if◌then◌else◌, option_to_list}, Char.{is_ascii, is_ascii_digit}}
use Rattle.legacy_base.specs.{Fronts.{reads, malformed, reads_or}, Gb18030.{gb18030_scalars, gb18030_range_pointer}, Grammar.gb18030, States.is_lead}
use Rattle.{legacy_decoder_engine.specs.Steps.{Step, hold, finish, leave, DecoderMachine, trail_step}, legacy_tables.specs.Indexes.range}

-- the held-back digit after a malformed lead, which is written before the next byte is read
abbrev pub gb18030_pending : List ℕ → Option (ℕ × ℕ)
gb18030_pending [] = None
gb18030_pending (b ∷ held) = if is_ascii_digit b then Some (1, b) else None

-- the step at a byte if nothing is held back
abbrev pub gb18030_first : ℕ → Step
gb18030_first b =
    if is_ascii b then finish (reads 1 (b ∷ []))
    else if b == 0x80 then finish (reads 1 (0x20AC ∷ []))
    else if is_lead b then hold
    else finish (malformed 1)

-- the step at a byte after these held-back bytes
abbrev pub gb18030_step : List ℕ → List (ℕ × ℕ) → List ℕ → ℕ → Step
gb18030_step index ranges [] b = gb18030_first b
gb18030_step index ranges (first ∷ []) b =
    if is_ascii_digit b then hold else trail_step 1 (gb18030_scalars index first b) b
gb18030_step index ranges (first ∷ second ∷ []) b =
    if is_lead b then hold else leave 1
gb18030_step index ranges (first ∷ second ∷ third ∷ held) b =
    if is_ascii_digit b
    then finish (reads_or 4 (option_to_list (range ranges (gb18030_range_pointer first second third b))) (malformed 4))
    else leave 1

-- the machine
abbrev pub gb18030_machine : List ℕ → List (ℕ × ℕ) → DecoderMachine
gb18030_machine index ranges = record {
  pending = gb18030_pending;
  step = gb18030_step index ranges;
  to = λ held b. gb18030 index ranges;
}
