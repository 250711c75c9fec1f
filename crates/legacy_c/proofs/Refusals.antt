-- A call is refused only if no coder was made.
use Rattle.std.proofs.Common.{arith, ◌≡◌, ◌∙◌, ℕ, ◌≤◌, List, Bool, true, false, Option, Some, None, refl, sym, ap, if◌then◌else◌}
use Rattle.std.specs.Prelude.{IfSome, unwrap_or}
use Rattle.legacy_base.specs.Encoders.{EncoderState}
use Rattle.legacy_base.specs.declared.results.EncoderResult.{EncoderResult}
use Rattle.legacy_base.specs.declared.results.EncoderResult.TheVariants as raw
use Rattle.legacy_codecs.specs.declared.results.CoderResult.{CoderResult}
use Rattle.legacy_codecs.specs.declared.results.CoderResult.TheVariants as replacing
use Rattle.legacy_c.specs.DecoderCalls.{replacing_status}
use Rattle.legacy_c.specs.EncoderCalls.{RawUtf8Call, ReplacingUtf8Call, ends_malformed, raw_encoder_numbers, raw_encoder_status, replacing_encoder_numbers}
use Rattle.legacy_c.specs.declared.saved.EncoderAnswer.{EncoderAnswer}

-- a call that is not refused is done
pub done_by : {R : Type 0} (given : Option R) (answer refused : R) (status : R → ℕ) (Done : R → Type 0)
    → answer ≡ unwrap_or given refused → status refused ≡ 3 → IfSome given Done → (status answer ≡ 3 → ⊥) → Done answer
done_by None answer refused status Done e r done n = absurd (n (ap status e ∙ r))
done_by (Some x) answer refused status Done e r done n = rw e done

-- a call is refused only if there was no coder
pub none_by : {R : Type 0} (given : Option R) (answer refused : R) (status : R → ℕ) (Done : R → Type 0)
    → answer ≡ unwrap_or given refused → IfSome given Done → ((a : R) → Done a → status a ≡ 3 → ⊥) → status answer ≡ 3 → given ≡ None
none_by None answer refused status Done e done never h = refl
none_by (Some x) answer refused status Done e done never h = absurd (never x done (sym (ap status e) ∙ h))

-- malformed bytes after a text make no refusal
not_three : (is_malformed : Bool) (status : ℕ) → status ≤ 2 → (if is_malformed then 4 else status) ≡ 3 → ⊥
not_three true status few h = omega (arith, h)
not_three false status few h = omega (arith, few, h)

raw_few : (result : EncoderResult) → raw_encoder_status result ≤ 2
raw_few raw.InputEmpty = omega arith
raw_few raw.OutputFull = omega arith
raw_few (raw.Unmappable scalar) = omega arith

replacing_few : (result : CoderResult) → replacing_status result ≤ 2
replacing_few replacing.InputEmpty = omega arith
replacing_few replacing.OutputFull = omega arith

pub raw_not_refused : (source : List ℕ) (last : Bool) (free : ℕ) (before after : EncoderState) (numbers : EncoderAnswer) (bytes : List ℕ)
    → RawUtf8Call source last free before after numbers bytes → numbers.status ≡ 3 → ⊥
raw_not_refused source last free before after numbers bytes call h =
    not_three (ends_malformed source last (raw_encoder_numbers call.0 numbers.read numbers.written)) (raw_encoder_status call.0) (raw_few call.0)
    (sym (ap (λ (n : EncoderAnswer). n.status) call.2) ∙ h)

pub replacing_not_refused : (source : List ℕ) (last : Bool) (free : ℕ) (before after : EncoderState) (numbers : EncoderAnswer) (bytes : List ℕ)
    → ReplacingUtf8Call source last free before after numbers bytes → numbers.status ≡ 3 → ⊥
replacing_not_refused source last free before after numbers bytes call h =
    not_three (ends_malformed source last (replacing_encoder_numbers call.0 numbers.replaced numbers.read numbers.written)) (replacing_status call.0)
    (replacing_few call.0) (sym (ap (λ (n : EncoderAnswer). n.status) call.2) ∙ h)
