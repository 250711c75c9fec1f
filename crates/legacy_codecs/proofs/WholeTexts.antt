-- Calls of an encoder with references, over a whole text.
use Rattle.std.proofs.Common.{◌≡◌, ℕ, ◌≤◌, ◌<◌, List, [], ◌++◌, length, refl, arith, append-nil, append_assoc, length-append, Bool, true}
use Rattle.std.proofs.{Common.{IsTrue, inl}, lemmas.Grind.flat_map-append}
use Rattle.legacy_base.specs.Encoders.{EncoderState, encoded}
use Rattle.legacy_base.proofs.EncoderLaws.{end-encoded}
use Rattle.legacy_codecs.specs.{declared.results.CoderResult.CoderResult, declared.results.CoderResult.TheVariants.{InputEmpty, OutputFull}}
use Rattle.legacy_codecs.specs.References.{event_bytes, referenced_bytes, tells_text_end, ReplacingEncoderCall}

-- the end was written on a last call
pub wrote_last : (last : Bool) (answer : CoderResult) → IsTrue (tells_text_end last answer) → IsTrue last
wrote_last last answer h = grind arith

module _ {last : Bool} {before : EncoderState} {source : List ℕ} {free : ℕ} {after : EncoderState} {answer : CoderResult} {left bytes : List ℕ} {found : Bool}
    (c : ReplacingEncoderCall before source last free after answer left bytes found) where
  -- what was written, and then the bytes of what is left, are those of the text
  pub bytes_go_on : referenced_bytes (encoded before source last) ≡ bytes ++ referenced_bytes (encoded after left last)
  bytes_go_on =
      let all = rw (append-nil source, append-nil left) at (c.gives [] last (λ w. inl (refl, wrote_last last answer w))) in
      rw (all, flat_map-append event_bytes c.out (encoded after left last), ← c.text) refl

  -- a full output that was long enough has some
  pub bytes_less : 14 ≤ free → answer ≡ OutputFull →
      length (referenced_bytes (encoded after left last)) < length (referenced_bytes (encoded before source last))
  bytes_less is e = grind (arith, bytes_go_on, length-append)

module _ {before : EncoderState} {source : List ℕ} {free : ℕ} {after : EncoderState} {answer : CoderResult} {left bytes : List ℕ} {found : Bool}
    (c : ReplacingEncoderCall before source true free after answer left bytes found) where
  -- after the end nothing is left to write
  pub bytes_end : answer ≡ InputEmpty → referenced_bytes (encoded after left true) ≡ []
  bytes_end e = grind (arith, end-encoded)

  -- what is done, with what was written now
  pub bytes_after : (done : List ℕ) {now whole : List ℕ} → done ++ referenced_bytes (encoded before source true) ≡ whole → now ≡ done ++ bytes →
      now ++ referenced_bytes (encoded after left true) ≡ whole
  bytes_after done h e =
      rw (e, append_assoc, ← (bytes_go_on c)) h
