-- The machine's steps, as the decoders' loop sees them.
use Rattle.std.{specs.Char.IsScalar, proofs.lemmas.{List.Elements.{All-cons, All-nil}, Bool.Decides.nat_tests}}
use Rattle.std.proofs.Common.{◌≡◌, ◌∙◌, ℕ, ◌+◌, ◌<◌, ◌≤◌, true, false, None, Some, List, [], ◌∷◌, length-append, length, sym, arith, cond, ◌==◌, take, refl}
use Rattle.legacy_base.specs.{Grammar.{iso_2022_jp, events_of}, States.{DecoderState, rests}, DecoderActs.HadRoom, Lengths.query_form, Iso2022Jp.esc}
use Rattle.legacy_decoder_engine.specs.Moves.{fed_scalars, fed_units, unread_byte, Feeds, FeedsMalformedByte, HoldsBytes}
use Rattle.{legacy_decoder_engine.specs.declared.moves.Fed.{TheVariants.{Nothing as Kept, One, Two}, Fed}, legacy_tables.specs.AcceptedTables.AcceptedIndexes}
use Rattle.legacy_japanese.proofs.Iso2022JpNeeds.{read_need-is, one_fits, total_need-falls, replacement_fits, times_one, held_allowed, held_rests, same_needs}
use Rattle.legacy_japanese.proofs.{Iso2022JpNeeds.{single_narrow, entry_narrow}, Iso2022JpStep.{done, step_events, IsStep, read_step}}
use Rattle.legacy_japanese.specs.Iso2022JpMachine.{bytes_held, is_held, malformed, read, second_of, third_of, state_in}
use Rattle.legacy_japanese.specs.declared.iso_2022_jp.bytes.{Start.TheVariants.{Nothing, EscapeByte, Dollar, Paren}, Held.TheVariants.Begun, Escape.Escape}
use Rattle.legacy_base.specs.declared.modes.DecoderMode.{DecoderMode}
use Rattle.legacy_japanese.specs.{declared.iso_2022_jp.bytes.{Start.Start, Held.Held}, Iso2022JpAhead.{begun_state, BeginsEscape}}
use Rattle.legacy_text.specs.EncodingForm.{total_unit_count, EncodingForm, bmp_need}

-- at most one scalar, which is not above U+FFFF
abbrev IsNarrow : Fed → Type 0
IsNarrow (One c) = (c < 0x1_0000) × IsScalar c
IsNarrow (Two c d) = ⊥
IsNarrow fed = Unit {0}

narrow : (tables : AcceptedIndexes) (mode : DecoderMode) (held : Held) (b : ℕ) → IsNarrow (read tables.flat.jis0208 mode held b).0
narrow tables mode held b = grind (arith, nat_tests, single_narrow, entry_narrow tables)

module _ (tables : AcceptedIndexes) (mode : DecoderMode) (held : Held) (byte : ℕ) (o : Fed × DecoderMode × Held) (may : is_held mode held ≡ true)
    (resting : rests (iso_2022_jp tables.flat.jis0208 mode) (bytes_held held) ≡ true) (is : o ≡ read tables.flat.jis0208 mode held byte) where
  -- the outcome is the machine's step
  step : IsStep tables.flat.jis0208 mode held byte o
  step = rw is (read_step tables.flat.jis0208 mode held byte may (sym (held_rests tables.flat.jis0208 mode held may) ∙ resting))

  -- after the step only what is allowed is held back
  pub kept : is_held o.1 o.2 ≡ true
  kept = step.kept

  -- the law of a step for the loop
  pub feeds : Feeds (state_in tables.flat.jis0208 mode held) byte (state_in tables.flat.jis0208 o.1 o.2) o.0
  unfolding events_of HadRoom
  feeds =
      let law = step.law in
      let fits = step.fits in
      let lower = step.need in
      let need = λ (form : EncodingForm). read_need-is form tables.flat.jis0208 mode held byte in
      let small : IsNarrow o.0 = rw is (narrow tables mode held byte) in
      record {
        passed = done held byte o;
        progress = record {
          counts = grind (arith, length-append);
          rest = step.suffix;
          codec = refl;
          events = λ more never. law more;
        };
        holds = step.holds;
        allowed = held_allowed tables.flat.jis0208 o.1 o.2 step.kept;
        needs = same_needs tables.flat.jis0208 mode o.1;
        empties = step.empties;
        report = λ form. omega arith;
        full = λ form some. rw (need form) (omega arith);
        fits = λ form. rw (need form) (grind (arith, one_fits));
        had = λ form free enough. let e = need form in grind arith;
        scalar = grind (arith, All-cons, All-nil);
        lowers = λ query n. total_need-falls query tables.flat.jis0208 mode o.1 held o.2 (n + 1) (n + length (unread_byte byte o.0))
            (length (step_events 0 o.0))
            (total_unit_count (query_form query) (fed_scalars o.0) + fed_units query o.0) (omega arith)
            (grind (arith, times_one, one_fits, replacement_fits));
      }

-- a byte past ASCII is malformed in each mode
pub malformed_byte : (tables : AcceptedIndexes) (mode : DecoderMode) (byte : ℕ) → 0x80 ≤ byte → FeedsMalformedByte (begun_state tables.flat.jis0208 mode) byte
malformed_byte tables mode byte past =
    let is : malformed 1 false mode (Begun None Nothing) ≡ read tables.flat.jis0208 mode (Begun None Nothing) byte = grind (arith, nat_tests) in
    (refl, feeds tables mode (Begun None Nothing) byte _ refl (held_rests tables.flat.jis0208 mode (Begun None Nothing) refl) is)

-- ---- a whole escape is held back at once

-- the start of an escape: its first two bytes
abbrev second_start : Escape → Start
second_start e = cond (second_of e == 0x24) Dollar Paren

module _ (form : EncodingForm) (free : ℕ) (enough : bmp_need form ≤ free) (tables : AcceptedIndexes) (mode : DecoderMode) where
  abbrev state : Held → DecoderState
  state = state_in tables.flat.jis0208 mode

  -- one byte is read and held back, after those already held back
  holds_byte : (start : Start) (byte : ℕ) (held : Held) (bytes : List ℕ) (next : Held)
      → (Kept, mode, held) ≡ read tables.flat.jis0208 mode (Begun None start) byte
      → HoldsBytes form free (state held) bytes (state next) → HoldsBytes form free (state (Begun None start)) (byte ∷ bytes) (state next)
  unfolding HoldsBytes
  holds_byte start byte held bytes next is rest = (
    state held,
    feeds tables mode (Begun None start) byte (Kept, mode, held) refl (held_rests tables.flat.jis0208 mode (Begun None start) refl) is,
    rw (read_need-is form tables.flat.jis0208 mode (Begun None start) byte) enough,
    rest,
  )

  -- the escape at the beginning of the source
  pub holds_escape : (e : Escape) (source : List ℕ) → BeginsEscape e source →
      HoldsBytes form free (begun_state tables.flat.jis0208 mode) (take 3 source) (state (Begun (Some e) Nothing))
  unfolding HoldsBytes
  holds_escape e source has =
      rw has.begins (holds_byte Nothing esc (Begun None EscapeByte) (second_of e ∷ third_of e ∷ []) (Begun (Some e) Nothing) refl
      (holds_byte EscapeByte (second_of e) (Begun None (second_start e)) (third_of e ∷ []) (Begun (Some e) Nothing) (grind arith)
      (holds_byte (second_start e) (third_of e) (Begun (Some e) Nothing) [] (Begun (Some e) Nothing) (grind arith) refl)))
