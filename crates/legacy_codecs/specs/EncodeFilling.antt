-- Calls of an encoder that fill one output, whose length was queried before the first of them.
use Rattle.std.specs.Prelude.{◌≡◌, ◌≢◌, ℕ, ◌+◌, ◌-◌, ◌≤◌, List, length, Bool, false, IsTrue, Some}
use Rattle.legacy_base.specs.declared.results.EncoderResult.{EncoderResult}
use Rattle.legacy_base.specs.declared.results.EncoderResult.TheVariants.{InputEmpty, OutputFull}
use Rattle.legacy_text.specs.EncodingForm.{EncodingForm, total_unit_count}
use Rattle.legacy_base.specs.Encoders.{EncoderState, encoder_answer}
use Rattle.legacy_base.specs.EncoderCalls.{EncoderCall}

-- A call with some of the code units to come, or all of them if it is the last. It writes into the free part of the
-- output and reads `read` code units. An unpaired surrogate counts as many as U+FFFD.
pub record NextEncodeCall (form : EncodingForm) (before : EncoderState) (units free : ℕ) (after : EncoderState) (answer : EncoderResult)
    (read : ℕ) (bytes : List ℕ) : Type 0 where
  pub source : List ℕ
  pub left : List ℕ
  pub last : Bool
  pub some : total_unit_count form source ≤ units
  pub all : IsTrue last → total_unit_count form source ≡ units
  pub reads : read + total_unit_count form left ≡ total_unit_count form source
  pub call : EncoderCall before source last free after answer left bytes

-- Calls from the state `from` with `units` code units to come and `free` bytes free, to a state with what is left of
-- both. Code units that are read do not come again, and bytes that are written are free no more. After the end of the
-- text there is no call.
pub data EncodeFills (form : EncodingForm) (from : EncoderState) (units free : ℕ) : EncoderState → ℕ → ℕ → Type 0 where
  begun : EncodeFills form from units free from units free
  called : (before : EncoderState) (to_come room : ℕ) → EncodeFills form from units free before to_come room →
      (after : EncoderState) (answer : EncoderResult) (read : ℕ) (bytes : List ℕ) →
      (n : NextEncodeCall form before to_come room after answer read bytes) →
      (answer ≡ InputEmpty → n.last ≡ false) →
      EncodeFills form from units free after (to_come - read) (room - length bytes)

-- An output of at least the length queried for at least the code units to come suffices: no call returns OutputFull,
-- however the text is cut. Nothing is written for unmappable scalars.
abbrev pub EncodeQueriedLengthSuffices : EncodingForm → Type 0
EncodeQueriedLengthSuffices form =
    (from : EncoderState) (units n k free : ℕ) → units ≤ n → encoder_answer form from n ≡ Some k → k ≤ free →
    (before : EncoderState) (to_come room : ℕ) → EncodeFills form from units free before to_come room →
    (after : EncoderState) (answer : EncoderResult) (read : ℕ) (bytes : List ℕ) →
    NextEncodeCall form before to_come room after answer read bytes → answer ≢ OutputFull
