-- Calls of an encoder that fill one output leave free what the rest of the text needs.
use Rattle.std.proofs.Common.{◌≡◌, ◌≢◌, ℕ, ◌+◌, ◌-◌, ◌≤◌, List, length, arith, Bool, false}
use Rattle.legacy_base.specs.{declared.results.EncoderResult.EncoderResult, declared.results.EncoderResult.TheVariants.{InputEmpty, OutputFull}}
use Rattle.legacy_base.specs.{Encoders.{EncoderState, encoder_total_need}, EncoderCalls.GoesOn}
use Rattle.legacy_text.specs.EncodingForm.{EncodingForm, total_unit_count}
use Rattle.legacy_base.proofs.EncoderLaws.{encoder_total_need-rises, encoder_total_need-answer}
use Rattle.legacy_codecs.specs.{EncodeFilling.{NextEncodeCall, EncodeFills, EncodeQueriedLengthSuffices}, EncodeFilling.EncodeFills.{begun, called}}

-- calls go on after a call that returns neither OutputFull nor, at the end of a text, InputEmpty
goes_on : (last : Bool) (answer : EncoderResult) → answer ≢ OutputFull → (answer ≡ InputEmpty → last ≡ false) → GoesOn last answer
goes_on last answer h h1 = grind arith

module _ {form : EncodingForm} {before : EncoderState} {units free : ℕ} {after : EncoderState} {answer : EncoderResult} {read : ℕ} {bytes : List ℕ}
    (n : NextEncodeCall form before units free after answer read bytes) (enough : encoder_total_need form before units ≤ free) where
  -- the next call does not return OutputFull
  next-suffices : answer ≢ OutputFull
  next-suffices = let r = encoder_total_need-rises form before (total_unit_count form n.source) units n.some in n.call.suffices form (omega arith)

  -- after the next call the rest of the text has room
  next-lowers : (answer ≡ InputEmpty → n.last ≡ false) → encoder_total_need form after (units - read) ≤ free - length bytes
  next-lowers e =
      let rest : total_unit_count form n.left + (units - total_unit_count form n.source) ≡ units - read = omega (arith, n.some, n.reads) in
      let all : total_unit_count form n.source + (units - total_unit_count form n.source) ≡ units = omega (arith, n.some) in
      let low = rw (rest, all) at (n.call.lowers form (units - total_unit_count form n.source) (goes_on n.last answer next-suffices e)) in
      omega arith

fills-room : {form : EncodingForm} {from : EncoderState} {units free : ℕ} {s : EncoderState} {to_come room : ℕ} →
    EncodeFills form from units free s to_come room → encoder_total_need form from units ≤ free → encoder_total_need form s to_come ≤ room
fills-room begun h = h
fills-room (called before to_come room f after answer read bytes n e) h = next-lowers n (fills-room f h) e

pub encode_queried_length_suffices : (form : EncodingForm) → EncodeQueriedLengthSuffices form
encode_queried_length_suffices form from units n k free more e h before to_come room f after answer read bytes next =
    let rises = encoder_total_need-rises form from units n more in
    let start = encoder_total_need-answer form from n k e in
    next-suffices next (fills-room f (omega arith))
