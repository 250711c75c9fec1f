-- The requirements of the loop on an encoder's profile: its needs and length formulas are enough for its scalars.
use Rattle.std.specs.Prelude.{◌≡◌, ℕ, ◌+◌, ◌-◌, ◌≤◌, [], length, Bool, true, false, not}
use Rattle.legacy_text.specs.EncodingForm.{EncodingForm, unit_count}
use Rattle.legacy_base.specs.{EncodeEvents.code_length, EncoderProfile.{EncoderProfile, differs}, declared.modes.EncoderMode.EncoderMode}
use Rattle.legacy_base.specs.{Lengths.number, Lengths.value}
use Rattle.legacy_base.specs.Profile.{is_empty}

-- what n more code units of a form can need in a mode
abbrev pub mode_need : EncoderProfile → EncodingForm → EncoderMode → ℕ → ℕ
mode_need p form mode n = value (p.formula form (number n)) - p.surplus form mode n

-- a scalar after the given mode needs an escape
abbrev pub wants : EncoderProfile → EncoderMode → ℕ → Bool
wants p mode c = differs mode (p.mode_for mode c)

-- the profile meets the requirements of the loop
pub record Serves (p : EncoderProfile) : Type 0 where
  -- an empty text that continues has no events
  pub nothing : (mode : EncoderMode) → p.events mode [] false ≡ []
  -- after its escape a scalar needs no other escape
  pub settled : (mode : EncoderMode) (c : ℕ) → wants p (p.mode_for mode c) c ≡ false
  -- the bytes of a scalar, written in the current mode, lower the need by their number, and what the scalar needs was free
  pub low : (mode : EncoderMode) (c : ℕ) (form : EncodingForm) (t : ℕ)
      → mode_need p form mode t + code_length (p.code c) ≤ mode_need p form mode (unit_count form c + t)
  pub enough : (mode : EncoderMode) (c : ℕ) (form : EncodingForm) (t : ℕ) → p.scalar_need c ≤ mode_need p form mode (unit_count form c + t)
  -- so do an escape and the scalar after it
  pub escape_low : (mode : EncoderMode) (c : ℕ) → wants p mode c ≡ true → (form : EncodingForm) (t : ℕ)
      → mode_need p form (p.mode_for mode c) t + (3 + code_length (p.code c)) ≤ mode_need p form mode (unit_count form c + t)
  pub escape_enough : (mode : EncoderMode) (c : ℕ) → wants p mode c ≡ true
      → (form : EncodingForm) (t : ℕ) → 3 + p.scalar_need c ≤ mode_need p form mode (unit_count form c + t)
  -- and the bytes of the end
  pub end : (mode : EncoderMode) (form : EncodingForm) → length (p.end_bytes mode) ≤ mode_need p form mode 0
  -- the end writes an escape or nothing
  pub escapes : (mode : EncoderMode) → not (is_empty (p.end_bytes mode)) ≡ true → length (p.end_bytes mode) ≡ 3
  -- the length formula is monotonic in the number of code units
  pub rises : (form : EncodingForm) (m n : ℕ) → m ≤ n → value (p.formula form (number m)) ≤ value (p.formula form (number n))
