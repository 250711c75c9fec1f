-- The number of code units of output that a number of bytes needs, at most. These are the formulas that the length
-- queries return, and the needs that they bound. They are not in the Standard; each call is proved to need no more.
use Rattle.std.specs.Prelude.{ℕ, ◌+◌, ◌-◌, ◌*◌, ◌/◌, ◌^◌, List, Option, Some, None, Bool, true, ◌&&◌, nat_le, if◌then◌else◌}
use Rattle.legacy_base.specs.declared.results.DecoderResult.{DecoderResult}
use Rattle.legacy_base.specs.declared.results.DecoderResult.TheVariants.{InputEmpty, OutputFull, Malformed}
use Rattle.legacy_text.specs.EncodingForm.{EncodingForm, Utf8, Utf16}
pub use Rattle.legacy_base.specs.Formulas.{Formula, number, ◌⊕◌, ◌⊗◌, half}
use Rattle.legacy_base.specs.Formulas.{formula}
use Rattle.legacy_base.specs.Grammar.{Grammar, profile}
use Rattle.legacy_base.specs.States.{DecoderState, additional_from_state}
use Rattle.legacy_base.specs.DecoderActs.{has_reported}

-- ---- formulas

-- the value of a formula, as an unbounded number
abbrev pub value : Formula → ℕ
value (number n) = n
value (a ⊕ b) = value a + value b
value (a ⊗ b) = value a * value b
value (half a) = value a / 2

-- the maximum of `usize`
abbrev pub usize_max : ℕ
usize_max = 2 ^ 64 - 1

-- each sum and each product of the formula is at most `usize::MAX`
abbrev pub has_lengths : Formula → Bool
has_lengths (number n) = true
has_lengths (a ⊕ b) = (has_lengths a && has_lengths b) && nat_le (value a + value b) usize_max
has_lengths (a ⊗ b) = (has_lengths a && has_lengths b) && nat_le (value a * value b) usize_max
has_lengths (half a) = has_lengths a

-- the result of a length query: none if a sum or a product of the formula exceeds `usize::MAX`
abbrev pub answer : Formula → Option ℕ
answer f = if has_lengths f then Some (value f) else None

-- ---- the weight of held-back bytes

-- the number of further bytes that the held-back bytes count as
abbrev pub weight : Grammar → List ℕ → ℕ
weight grammar bytes = (profile grammar).weight bytes

-- ---- the formulas of decoders: by n, the number of bytes to come, by m, which is n with the weight of the held-back
-- bytes, and in UTF-16 by the number of code units

-- m
abbrev pub weighted : DecoderState → ℕ → Formula
weighted state n = number n ⊕ number (weight state.grammar state.held)

-- the code units that n more bytes and the held-back bytes make, at most
abbrev pub most_code_units : DecoderState → ℕ → Formula
most_code_units state n = half (number n ⊕ number (additional_from_state state))

-- `max_utf16_buffer_length`, by n, m and the code units
abbrev pub utf16_formula : Grammar → Formula → Formula → Formula → Formula
utf16_formula grammar = formula (profile grammar).lengths.utf16

-- `max_utf8_buffer_length_without_replacement`
abbrev pub utf8_without_replacement_formula : Grammar → Formula → Formula → Formula → Formula
utf8_without_replacement_formula grammar = formula (profile grammar).lengths.utf8_without_replacement

-- `max_utf8_buffer_length`
abbrev pub utf8_formula : Grammar → Formula → Formula → Formula → Formula
utf8_formula grammar = formula (profile grammar).lengths.utf8

-- ---- queries

-- the three queries of a decoder: `max_utf16_buffer_length`, `max_utf8_buffer_length` and
-- `max_utf8_buffer_length_without_replacement`
pub data LengthQuery : Type 0 where
  to_utf16 to_utf8 to_utf8_without_replacement : LengthQuery

-- the encoding form of a query
abbrev pub query_form : LengthQuery → EncodingForm
query_form to_utf16 = Utf16
query_form to_utf8 = Utf8
query_form to_utf8_without_replacement = Utf8

-- the code units that a query counts for the U+FFFD of a malformed sequence
abbrev pub replacement_units : LengthQuery → ℕ
replacement_units to_utf16 = 1
replacement_units to_utf8 = 3
replacement_units to_utf8_without_replacement = 0

-- the code units that a query counts for a result
abbrev pub answer_units : LengthQuery → DecoderResult → ℕ
answer_units query InputEmpty = 0
answer_units query OutputFull = 0
answer_units query (Malformed length back) = replacement_units query

-- the formula of a query
abbrev pub query_formula : LengthQuery → Grammar → Formula → Formula → Formula → Formula
query_formula to_utf16 = utf16_formula
query_formula to_utf8 = utf8_formula
query_formula to_utf8_without_replacement = utf8_without_replacement_formula

-- the formula of a query in a state, for n more bytes
abbrev pub state_formula : LengthQuery → DecoderState → ℕ → Formula
state_formula query state n =
    query_formula query state.grammar (number n) (weighted state n) (most_code_units state n)

-- the result of a query for n more bytes
abbrev pub query_answer : LengthQuery → DecoderState → ℕ → Option ℕ
query_answer query state n = answer (state_formula query state n)

-- What n more bytes can need, as an unbounded number. It is 0 after a replacement decoder has reported its
-- error.
abbrev pub total_need : LengthQuery → DecoderState → ℕ → ℕ
total_need query state n = if has_reported state.grammar then 0 else value (state_formula query state n)
