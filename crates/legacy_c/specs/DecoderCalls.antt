-- The calls of a decoder by its numbers.
use Rattle.std.specs.Prelude.{◌≡◌, ℕ, ◌+◌, ◌≤◌, List, [], ◌++◌, Bool, false, IsTrue, Option, Some, None, drop, length}
use Rattle.legacy_base.specs.Grammar.{as_new}
use Rattle.legacy_base.specs.States.{DecoderState, may_hold}
use Rattle.legacy_base.specs.Calls.{IsDecoderCall}
use Rattle.legacy_base.specs.Lengths.{LengthQuery, query_answer}
use Rattle.legacy_base.specs.declared.results.DecoderResult.{DecoderResult}
use Rattle.legacy_base.specs.declared.results.DecoderResult.TheVariants as raw
use Rattle.legacy_codecs.specs.Replacing.{ReplacingDecoderCall}
use Rattle.legacy_codecs.specs.declared.results.CoderResult.{CoderResult}
use Rattle.legacy_codecs.specs.declared.results.CoderResult.TheVariants as replacing
use Rattle.legacy_text.specs.EncodingForm.{EncodingForm}
use Rattle.legacy_c.specs.Saved.{Saves}
use Rattle.legacy_c.specs.declared.index_tables.IndexTables.{IndexTables}
use Rattle.legacy_c.specs.declared.saved.{DecoderAnswer.DecoderAnswer, SavedDecoder.SavedDecoder, Length.Length}

-- the numbers of a result
abbrev pub answer : ℕ → ℕ → ℕ → Bool → ℕ → ℕ → DecoderAnswer
answer status length back replaced read written = record {
  status = status;
  length = length;
  back = back;
  replaced = replaced;
  read = read;
  written = written;
}

-- the status of a raw call
abbrev pub raw_status : DecoderResult → ℕ
raw_status raw.InputEmpty = 0
raw_status raw.OutputFull = 1
raw_status (raw.Malformed length back) = 2

-- the length of the malformed sequence that a result reports, or 0
abbrev pub raw_length : DecoderResult → ℕ
raw_length raw.InputEmpty = 0
raw_length raw.OutputFull = 0
raw_length (raw.Malformed length back) = length

-- the number of bytes read after it, or 0
abbrev pub raw_back : DecoderResult → ℕ
raw_back raw.InputEmpty = 0
raw_back raw.OutputFull = 0
raw_back (raw.Malformed length back) = back

-- the numbers of the result of a raw call
abbrev pub raw_answer : DecoderResult → ℕ → ℕ → DecoderAnswer
raw_answer result read written = answer (raw_status result) (raw_length result) (raw_back result) false read written

-- the status of a call with replacement
abbrev pub replacing_status : CoderResult → ℕ
replacing_status replacing.InputEmpty = 0
replacing_status replacing.OutputFull = 1

-- the numbers of the result of a call with replacement
abbrev pub replacing_answer : CoderResult → Bool → ℕ → ℕ → DecoderAnswer
replacing_answer result replaced read written = answer (replacing_status result) 0 0 replaced read written

-- the numbers of a refused call
abbrev pub refusal : DecoderAnswer
refusal = answer 3 0 0 false 0 0

-- a raw call from the state `before` to the state `after`, with these numbers as its result and these code units written
abbrev pub RawCall : EncodingForm → List ℕ → Bool → ℕ → DecoderState → DecoderState → DecoderAnswer → List ℕ → Type 0
RawCall form source last free before after numbers written =
    (result : DecoderResult) × IsDecoderCall form before source last free after result numbers.read [] written
    × (numbers ≡ raw_answer result numbers.read numbers.written)

-- the same for a call with replacement
abbrev pub ReplacingCall : EncodingForm → List ℕ → Bool → ℕ → DecoderState → DecoderState → DecoderAnswer → List ℕ → Type 0
ReplacingCall form source last free before after numbers written =
    (result : CoderResult) × ReplacingDecoderCall form before source last free after result numbers.read written numbers.replaced
    × (numbers ≡ replacing_answer result numbers.replaced numbers.read numbers.written)

-- The decoder read `read` bytes of the source. What was held back and read ends with what is held back after it, and
-- the codec may hold that back.
pub record Reads (before : DecoderState) (source : List ℕ) (read : ℕ) (after : DecoderState) : Type 0 where
  pub within : read ≤ length source
  pub passed : ℕ
  pub counts : passed + (length after.held + length (drop read source)) ≡ length before.held + length source
  pub rest : drop passed (before.held ++ source) ≡ after.held ++ drop read source
  pub codec : as_new after.grammar ≡ as_new before.grammar
  pub allowed : IsTrue (may_hold before.grammar before.held) → IsTrue (may_hold after.grammar after.held)

-- the numbers of a length
abbrev pub length_numbers : Option ℕ → Length
length_numbers None = record { status = 1; length = 0 }
length_numbers (Some length) = record { status = 0; length = length }

-- the numbers of a refused query
abbrev pub refused_length : Length
refused_length = record { status = 3; length = 0 }

-- the length that a query returns for the state of the numbers
abbrev pub IsLength : LengthQuery → IndexTables → SavedDecoder → ℕ → Length → Type 0
IsLength query tables saved byte_length numbers =
    (state : DecoderState) × Saves tables saved state × (numbers ≡ length_numbers (query_answer query state byte_length))
