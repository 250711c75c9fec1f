-- The machines of the codecs whose sequences are one byte, or a lead and a trail.
use Rattle.std.specs.{Prelude.{ℕ, List, [], ◌∷◌, Bool, if◌then◌else◌}, Char.is_ascii}
use Rattle.legacy_base.specs.{Fronts.{reads, malformed}, Grammar.Grammar}
use Rattle.legacy_decoder_engine.specs.Steps.{no_pending, Step, hold, finish, DecoderMachine, trail_step}

-- the step at a byte, from the step at a first byte and the scalars of a lead and a trail
abbrev pub two_byte_step : (ℕ → Step) → (ℕ → ℕ → List ℕ) → List ℕ → ℕ → Step
two_byte_step first scalars [] b = first b
two_byte_step first scalars (lead ∷ held) b = trail_step 1 (scalars lead b) b

-- the machine of a codec, by the step at a first byte and the scalars of a lead and a trail
abbrev pub two_byte_machine : Grammar → (ℕ → Step) → (ℕ → ℕ → List ℕ) → DecoderMachine
two_byte_machine g first scalars = record {
  pending = no_pending;
  step = two_byte_step first scalars;
  to = λ held b. g;
}

-- ASCII, a lead, or neither
abbrev pub lead_first : (ℕ → Bool) → ℕ → Step
lead_first is_lead_byte b =
    if is_ascii b then finish (reads 1 (b ∷ []))
    else if is_lead_byte b then hold
    else finish (malformed 1)
