-- The search for malformed sequences under way.
use Rattle.std.proofs.Common.{◌≡◌, ℕ, ◌+◌, ◌-◌, ◌≤◌, List, [], ◌∷◌, ◌++◌, length, drop, map, refl, ap, ap₂, arith, append-nil, add-zero, length-drop}
use Rattle.std.proofs.{Common.true, lemmas.List.drop_all}
use Rattle.legacy_base.specs.{declared.results.DecodeEvent.DecodeEvent, declared.results.DecodeEvent.TheVariants.{Scalar, Bad}}
use Rattle.legacy_base.specs.{declared.results.DecoderResult.DecoderResult, declared.results.DecoderResult.TheVariants.{InputEmpty, OutputFull, Malformed}}
use Rattle.legacy_base.specs.{Events.shift, Grammar.events_of, States.DecoderState, Lengths.{to_utf8_without_replacement, total_need}}
use Rattle.legacy_base.specs.Calls.{Progress, DecoderCall}
use Rattle.legacy_base.specs.Calls.{out_events}
use Rattle.legacy_text.specs.EncodingForm.{Utf8}
use Rattle.legacy_base.proofs.Progress.{stay, at_less, after_that}
use Rattle.legacy_codecs.specs.{declared.malformed.MalformedSequence.MalformedSequence, MalformedSequences.malformed_of}

-- a sequence is its place and its length
pub sequence_is : (s : MalformedSequence) (p n : ℕ) → s.place ≡ p → s.length ≡ n → s ≡ record { place = p; length = n }
sequence_is s p n e f = ap₂ (λ (p n : ℕ). record { place = p; length = n }) e f

malformed-append : (held : ℕ) (xs ys : List DecodeEvent) → malformed_of held (xs ++ ys) ≡ malformed_of held xs ++ malformed_of held ys
unfolding malformed_of
malformed-append held [] ys = refl
malformed-append held (Scalar c ∷ xs) ys = malformed-append held xs ys
malformed-append held (Bad place n ∷ xs) ys = ap (λ (l : List MalformedSequence). record { place = place - held; length = n } ∷ l) (malformed-append held xs ys)

-- scalars are none, and have no place
malformed-scalars : (held k : ℕ) (cs : List ℕ) (more : List DecodeEvent) →
    malformed_of held (shift k (map Scalar cs ++ more)) ≡ malformed_of held (shift k more)
unfolding malformed_of
malformed-scalars held k [] more = refl
malformed-scalars held k (c ∷ cs) more = malformed-scalars held k cs more

-- The rest of the input is unread, and these sequences were found.
pub record Finds (before : DecoderState) (input : List ℕ) (room_free : ℕ) (now : DecoderState) (rest : List ℕ) (read : ℕ)
    (found : List MalformedSequence) : Type 0 where
  pub passed : ℕ
  pub out : List DecodeEvent
  pub progress : Progress true before input passed now rest out
  pub counts : read + length rest ≡ length input
  pub found_is : found ≡ malformed_of (length before.held) out
  pub fits : total_need to_utf8_without_replacement now (length rest) ≤ room_free

pub finds_start : (before : DecoderState) (input : List ℕ) (free : ℕ) → total_need to_utf8_without_replacement before (length input) ≤ free →
    Finds before input free before input 0 []
unfolding malformed_of
finds_start before input free h = record { passed = 0; out = []; progress = stay true before input; counts = omega arith; found_is = refl; fits = h }

module _ {before : DecoderState} {input : List ℕ} {free : ℕ} {now : DecoderState} {rest : List ℕ} {read : ℕ} {found : List MalformedSequence}
    (f : Finds before input free now rest read found) {after : DecoderState} {count : ℕ} {scalars : List ℕ} where
  progress_after : {answer : DecoderResult} (c : DecoderCall Utf8 now rest true free after answer count scalars) →
      Progress true before input (f.passed + c.passed) after (drop count rest) (f.out ++ shift f.passed (out_events (length now.held + count) scalars answer))
  progress_after c = after_that f.progress (at_less (λ l. refl) c.progress)

  -- the place of a malformed sequence
  place_is : {a b : ℕ} → DecoderCall Utf8 now rest true free after (Malformed a b) count scalars →
      f.passed + (length now.held + count - b - a) - length before.held ≡ read + count - (a + b)
  place_is c = let counts = f.progress.counts in let sum = f.counts in let within = c.malformed_sequence.within in omega arith

  -- what a call that reports it adds
  added : {a b : ℕ} → DecoderCall Utf8 now rest true free after (Malformed a b) count scalars →
      malformed_of (length before.held) (shift f.passed (out_events (length now.held + count) scalars (Malformed a b)))
      ≡ record { place = read + count - (a + b); length = a } ∷ []
  unfolding malformed_of
  added {a} {b} c = grind (arith, malformed-scalars, place_is)

  pub finds_step : {a b : ℕ} → DecoderCall Utf8 now rest true free after (Malformed a b) count scalars →
      Finds before input free after (drop count rest) (read + count) (found ++ record { place = read + count - (a + b); length = a } ∷ [])
  finds_step {a} {b} c =
      let lower = c.lowers to_utf8_without_replacement refl 0 (λ _. refl) in
      let lowered = rw (add-zero (length (drop count rest)), add-zero (length rest)) at lower in
      let within = c.within in
      let sum = f.counts in
      let had = f.fits in
      record {
        passed = f.passed + c.passed;
        out = f.out ++ shift f.passed (out_events (length now.held + count) scalars (Malformed a b));
        progress = progress_after c;
        counts = omega (arith, length-drop count rest);
        found_is = rw (f.found_is, malformed-append, added c) refl;
        fits = omega (arith, lowered, had);
      }

  pub finds_end : DecoderCall Utf8 now rest true free after InputEmpty count scalars →
      found ≡ malformed_of (length before.held) (events_of before.grammar (before.held ++ input))
  unfolding malformed_of
  finds_end c = grind (arith, drop_all, append-nil, progress_after, malformed-append, malformed-scalars)

  pub never_full : DecoderCall Utf8 now rest true free after OutputFull count scalars → ⊥
  never_full c = c.suffices to_utf8_without_replacement refl f.fits refl

  -- a call that reports none is the last
  pub finds_stop : {answer : DecoderResult} → DecoderCall Utf8 now rest true free after answer count scalars → ((a b : ℕ) → answer ≡ Malformed a b → ⊥) →
      (found ≡ malformed_of (length before.held) (events_of before.grammar (before.held ++ input))) × (events_of after.grammar after.held ≡ [])
  finds_stop {answer = InputEmpty} c n = (finds_end c, (c.input_empty refl).2 refl)
  finds_stop {answer = OutputFull} c n = absurd (never_full c)
  finds_stop {answer = Malformed a b} c n = absurd (n a b refl)
