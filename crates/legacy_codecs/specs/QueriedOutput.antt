-- Calls of a decoder that fill one output, whose length was queried before the first of them.
use Rattle.std.specs.Prelude.{◌≡◌, ◌≢◌, ℕ, ◌+◌, ◌-◌, ◌≤◌, List, length, Bool, IsTrue, Some}
use Rattle.legacy_base.specs.declared.results.DecoderResult.{DecoderResult}
use Rattle.legacy_base.specs.declared.results.DecoderResult.TheVariants.{OutputFull}
use Rattle.legacy_text.specs.EncodingForm.{EncodingForm, total_unit_count}
use Rattle.legacy_base.specs.States.{DecoderState}
use Rattle.legacy_base.specs.Lengths.{LengthQuery, query_form, query_answer, answer_units}
use Rattle.legacy_base.specs.Calls.{DecoderCall}
use Rattle.legacy_codecs.specs.declared.results.CoderResult.{CoderResult}
use Rattle.legacy_codecs.specs.declared.results.CoderResult.TheVariants.{InputEmpty}
use Rattle.legacy_codecs.specs.Replacing.{replacing_query, ReplacingDecoderCall}

-- A call with some of the bytes to come, or all of them if it is the last. It writes into the free part of the output.
pub record NextCall (query : LengthQuery) (before : DecoderState) (bytes free : ℕ) (after : DecoderState) (answer : DecoderResult)
    (read : ℕ) (scalars : List ℕ) : Type 0 where
  pub source : List ℕ
  pub last : Bool
  pub some : length source ≤ bytes
  pub all : IsTrue last → length source ≡ bytes
  pub call : DecoderCall (query_form query) before source last free after answer read scalars

-- Calls from the state `from` with `bytes` bytes to come and `free` code units free, to a state with what is left of
-- both. Bytes that are read do not come again, and code units that are written are free no more. If the query counts
-- U+FFFD, the caller writes it for each malformed sequence, and it takes free code units too.
pub data Fills (query : LengthQuery) (from : DecoderState) (bytes free : ℕ) : DecoderState → ℕ → ℕ → Type 0 where
  begun : Fills query from bytes free from bytes free
  called : (before : DecoderState) (to_come left : ℕ) → Fills query from bytes free before to_come left →
      (after : DecoderState) (answer : DecoderResult) (read : ℕ) (scalars : List ℕ) →
      NextCall query before to_come left after answer read scalars →
      Fills query from bytes free after (to_come - read) (left - (total_unit_count (query_form query) scalars + answer_units query answer))

-- An output of at least the length queried for at least the bytes to come suffices: no call returns OutputFull, however
-- the bytes are cut. What is written for the query always fits.
abbrev pub QueriedLengthSuffices : LengthQuery → Type 0
QueriedLengthSuffices query =
    (from : DecoderState) (bytes n units free : ℕ) → bytes ≤ n → query_answer query from n ≡ Some units → units ≤ free →
    (before : DecoderState) (to_come left : ℕ) → Fills query from bytes free before to_come left →
    (after : DecoderState) (answer : DecoderResult) (read : ℕ) (scalars : List ℕ) →
    NextCall query before to_come left after answer read scalars →
    (answer ≢ OutputFull) × (total_unit_count (query_form query) scalars + answer_units query answer ≤ left)

-- ---- calls with replacement

-- the same for a call with replacement, which writes U+FFFD itself
pub record NextReplacingCall (form : EncodingForm) (before : DecoderState) (bytes free : ℕ) (after : DecoderState) (answer : CoderResult) (read : ℕ)
    (written : List ℕ) (found : Bool) : Type 0 where
  pub source : List ℕ
  pub last : Bool
  pub some : length source ≤ bytes
  pub all : IsTrue last → length source ≡ bytes
  pub call : ReplacingDecoderCall form before source last free after answer read written found

-- calls with replacement from a state, with what is left of the bytes to come and of the free code units
pub data ReplacingFills (form : EncodingForm) (from : DecoderState) (bytes free : ℕ) : DecoderState → ℕ → ℕ → Type 0 where
  begun : ReplacingFills form from bytes free from bytes free
  called : (before : DecoderState) (to_come left : ℕ) → ReplacingFills form from bytes free before to_come left →
      (after : DecoderState) (answer : CoderResult) (read : ℕ) (written : List ℕ) (found : Bool) →
      NextReplacingCall form before to_come left after answer read written found →
      ReplacingFills form from bytes free after (to_come - read) (left - length written)

-- an output of such a length suffices: each call returns InputEmpty
abbrev pub ReplacingQueriedLengthSuffices : EncodingForm → Type 0
ReplacingQueriedLengthSuffices form =
    (from : DecoderState) (bytes n units free : ℕ) → bytes ≤ n → query_answer (replacing_query form) from n ≡ Some units → units ≤ free →
    (before : DecoderState) (to_come left : ℕ) → ReplacingFills form from bytes free before to_come left →
    (after : DecoderState) (answer : CoderResult) (read : ℕ) (written : List ℕ) (found : Bool) →
    NextReplacingCall form before to_come left after answer read written found → answer ≡ InputEmpty
