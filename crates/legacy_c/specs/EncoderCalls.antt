-- The calls of an encoder by its numbers.
use Rattle.std.specs.Prelude.{◌≡◌, ℕ, ◌-◌, List, Bool, false, not, drop, length, take, is_some, unwrap_or, ◌==◌, ◌&&◌, ◌||◌, if◌then◌else◌}
use Rattle.std.specs.Str.{chars}
use Rattle.std.specs.Str.Lossy.{utf8_valid_len, utf8_error_len}
use Rattle.legacy_base.specs.Encoders.{EncoderState, encoder_answer}
use Rattle.legacy_base.specs.EncoderCalls.{EncoderCall}
use Rattle.legacy_base.specs.declared.results.EncoderResult.{EncoderResult}
use Rattle.legacy_base.specs.declared.results.EncoderResult.TheVariants as raw
use Rattle.legacy_codecs.specs.References.{ReplacingEncoderCall}
use Rattle.legacy_codecs.specs.declared.results.CoderResult.{CoderResult}
use Rattle.legacy_text.specs.EncodingForm.{EncodingForm}
use Rattle.legacy_text.specs.Texts.{unit_scalars}
use Rattle.legacy_c.specs.DecoderCalls.{length_numbers, replacing_status}
use Rattle.legacy_c.specs.SavedEncoder.{SavesEncoder}
use Rattle.legacy_c.specs.declared.index_tables.IndexTables.{IndexTables}
use Rattle.legacy_c.specs.declared.saved.{EncoderAnswer.EncoderAnswer, SavedEncoder.SavedEncoder, Length.Length}

-- the numbers of a result
abbrev pub encoder_numbers : ℕ → ℕ → ℕ → Bool → ℕ → ℕ → EncoderAnswer
encoder_numbers status scalar length replaced read written = record {
  status = status;
  scalar = scalar;
  length = length;
  read = read;
  written = written;
  replaced = replaced;
}

-- the status of a raw call
abbrev pub raw_encoder_status : EncoderResult → ℕ
raw_encoder_status raw.InputEmpty = 0
raw_encoder_status raw.OutputFull = 1
raw_encoder_status (raw.Unmappable scalar) = 2

-- the unmappable scalar that a result reports, or 0
abbrev pub raw_scalar : EncoderResult → ℕ
raw_scalar raw.InputEmpty = 0
raw_scalar raw.OutputFull = 0
raw_scalar (raw.Unmappable scalar) = scalar

-- the numbers of the result of a raw call
abbrev pub raw_encoder_numbers : EncoderResult → ℕ → ℕ → EncoderAnswer
raw_encoder_numbers result read written = encoder_numbers (raw_encoder_status result) (raw_scalar result) 0 false read written

-- the numbers of the result of a call with replacement
abbrev pub replacing_encoder_numbers : CoderResult → Bool → ℕ → ℕ → EncoderAnswer
replacing_encoder_numbers result replaced read written = encoder_numbers (replacing_status result) 0 0 replaced read written

-- the numbers of a refused call
abbrev pub encoder_refusal : EncoderAnswer
encoder_refusal = encoder_numbers 3 0 0 false 0 0

-- ---- text in UTF-8, which may be malformed

-- the bytes are UTF-8
abbrev pub is_whole : List ℕ → Bool
is_whole source = utf8_valid_len source == length source

-- the bytes after the longest beginning in UTF-8 are malformed, and not only cut off, or nothing follows them
abbrev pub is_malformed_rest : List ℕ → Bool → Bool
is_malformed_rest source last = not (is_whole source) && (last || is_some (utf8_error_len (drop (utf8_valid_len source) source)))

-- the number of these bytes that are malformed
abbrev pub malformed_length : List ℕ → ℕ
malformed_length source =
    unwrap_or (utf8_error_len (drop (utf8_valid_len source) source)) (length source - utf8_valid_len source)

-- all of the beginning is read, and the rest is malformed
abbrev pub ends_malformed : List ℕ → Bool → EncoderAnswer → Bool
ends_malformed source last numbers = (numbers.status == 0) && is_malformed_rest source last

-- the numbers of a call that read from the beginning, with what follows it
abbrev pub with_rest : List ℕ → Bool → EncoderAnswer → EncoderAnswer
with_rest source last numbers =
    encoder_numbers (if ends_malformed source last numbers then 4 else numbers.status) (if ends_malformed source last numbers then 0 else numbers.scalar)
    (if ends_malformed source last numbers then malformed_length source else numbers.length) numbers.replaced numbers.read numbers.written

-- the longest beginning in UTF-8
abbrev pub valid_text : List ℕ → List ℕ
valid_text source = take (utf8_valid_len source) source

-- a raw call by a text in UTF-8: it encodes the longest beginning in UTF-8, which is the end of the text only if it is all
abbrev pub RawUtf8Call : List ℕ → Bool → ℕ → EncoderState → EncoderState → EncoderAnswer → List ℕ → Type 0
RawUtf8Call source last free before after numbers bytes =
    (result : EncoderResult)
    × EncoderCall before (chars (valid_text source)) (last && is_whole source) free after result (chars (drop numbers.read (valid_text source))) bytes
    × (numbers ≡ with_rest source last (raw_encoder_numbers result numbers.read numbers.written))

-- the same for a call with replacement
abbrev pub ReplacingUtf8Call : List ℕ → Bool → ℕ → EncoderState → EncoderState → EncoderAnswer → List ℕ → Type 0
ReplacingUtf8Call source last free before after numbers bytes =
    (result : CoderResult)
    × ReplacingEncoderCall before (chars (valid_text source)) (last && is_whole source) free after result
    (chars (drop numbers.read (valid_text source))) bytes numbers.replaced
    × (numbers ≡ with_rest source last (replacing_encoder_numbers result numbers.replaced numbers.read numbers.written))

-- ---- text in UTF-16, in which an unpaired surrogate is U+FFFD

-- a raw call by a text in UTF-16
abbrev pub RawUtf16Call : List ℕ → Bool → ℕ → EncoderState → EncoderState → EncoderAnswer → List ℕ → Type 0
RawUtf16Call source last free before after numbers bytes =
    (result : EncoderResult)
    × EncoderCall before (unit_scalars source) last free after result (unit_scalars (drop numbers.read source)) bytes
    × (numbers ≡ raw_encoder_numbers result numbers.read numbers.written)

-- the same for a call with replacement
abbrev pub ReplacingUtf16Call : List ℕ → Bool → ℕ → EncoderState → EncoderState → EncoderAnswer → List ℕ → Type 0
ReplacingUtf16Call source last free before after numbers bytes =
    (result : CoderResult)
    × ReplacingEncoderCall before (unit_scalars source) last free after result (unit_scalars (drop numbers.read source)) bytes numbers.replaced
    × (numbers ≡ replacing_encoder_numbers result numbers.replaced numbers.read numbers.written)

-- ---- length queries

-- the length that a query returns for the state of the numbers
abbrev pub IsEncoderLength : EncodingForm → IndexTables → SavedEncoder → ℕ → Length → Type 0
IsEncoderLength form tables saved units numbers =
    (state : EncoderState) × SavesEncoder tables saved state × (numbers ≡ length_numbers (encoder_answer form state units))
