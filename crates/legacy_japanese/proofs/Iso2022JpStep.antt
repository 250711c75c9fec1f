-- The law that each step of the machine must meet. Each step meets it, and leaves only what may be held back.
use Rattle.std.proofs.Common.{◌≡◌, ◌≢◌, ℕ, ◌+◌, ◌-◌, ◌≤◌, true, Option, Some, None, List, [], ◌∷◌, ◌++◌, length, map, drop, ◌⊎◌, suc, false, cond, leb, arith}
use Rattle.std.{proofs.lemmas.Bool.{eqb-true, ne_eqb, leb-true, and_parts, cond_both, Decides.nat_tests}, specs.{Prelude.{◌==◌, is_some}, Int.is_in_range}}
use Rattle.legacy_base.specs.{Beginnings.BeginsWith, Events.shift, Iso2022Jp.{iso_2022_jp_front, iso_2022_jp_events, esc, part_mode}, States.is_two_byte_mode}
use Rattle.legacy_base.{specs.declared.results.DecodeEvent.{DecodeEvent, TheVariants.{Scalar, Bad}}, proofs.Iso2022JpParts.no_escape}
use Rattle.legacy_base.proofs.{Iso2022JpFronts.{step_one, step_two, step_no_escape, step_escape}, Shifts.{shift-append, shift-shift, shift-zero}}
use Rattle.legacy_decoder_engine.specs.{Moves.{fed_scalars, fed_malformed, unread_byte, FedHolds}, declared.moves.Fed.Fed}
use Rattle.legacy_base.specs.declared.modes.DecoderMode.{DecoderMode, TheVariants.TwoByte}
use Rattle.legacy_japanese.specs.declared.iso_2022_jp.bytes.{Escape.Escape, Start.{TheVariants.{Nothing, EscapeByte}, Start}}
use Rattle.legacy_japanese.specs.declared.iso_2022_jp.bytes.Held.{Held, TheVariants.{Begun, Byte}}
use Rattle.legacy_japanese.specs.Iso2022JpMachine.{bytes_held, is_held, is_resting, mode_of, read, read_in_mode, state_in, weight_of, read_start}
use Rattle.legacy_japanese.specs.Iso2022JpMachine.{read_trail, second_of, start_bytes, third_of}

-- the definitions at the modes of the code
abbrev pub events_in : List ℕ → DecoderMode → List ℕ → List DecodeEvent
events_in jis0208 mode bytes = iso_2022_jp_events jis0208 mode bytes

-- ---- the law

-- the number of held-back and read bytes that a step consumes
abbrev pub done : Held → ℕ → Fed × DecoderMode × Held → ℕ
done held b o = suc (length (bytes_held held)) - length (bytes_held o.2 ++ unread_byte b o.0)

-- the events of a step that has consumed `taken` bytes
abbrev pub step_events : ℕ → Fed → List DecodeEvent
step_events taken fed = map Scalar (fed_scalars fed) ++ fed_malformed taken fed

-- The law of a step, for all bytes that follow. The events of the held-back bytes, the byte and the rest are those of
-- the step, and then others. The others are the events of the bytes now held back and the unread bytes.
abbrev pub MeetsLaw : List ℕ → DecoderMode → Held → ℕ → Fed × DecoderMode × Held → Type 0
MeetsLaw jis0208 mode held b o = (more : List ℕ) →
    events_in jis0208 mode (bytes_held held ++ b ∷ more)
    ≡ step_events (done held b o) o.0
    ++ shift (done held b o) (events_in jis0208 o.1 (bytes_held o.2 ++ (unread_byte b o.0 ++ more)))

-- the number of held-back bytes that the end of the input consumes
abbrev pub ended : Held → Held → ℕ
ended held new_held = length (bytes_held held) - length (bytes_held new_held)

-- The law of the end: the report and the events after it. It also holds if more bytes follow and the report is the
-- same.
abbrev pub MeetsEnd : List ℕ → DecoderMode → Held → Option (DecoderMode × Held) → Type 0
MeetsEnd jis0208 mode held None = events_in jis0208 mode (bytes_held held) ≡ []
MeetsEnd jis0208 mode held (Some o) = (more : List ℕ) →
    (more ≡ []) ⊎ BeginsWith (events_in jis0208 mode (bytes_held held ++ more)) (Bad (ended held o.1 - 1) 1 ∷ []) →
    events_in jis0208 mode (bytes_held held ++ more)
    ≡ Bad (ended held o.1 - 1) 1 ∷ shift (ended held o.1) (events_in jis0208 o.0 (bytes_held o.1 ++ more))

-- ---- lemmas

-- the second byte of an escape may be held back alone
pub second_kept : (mode : DecoderMode) → (is_held mode (Byte 0x24) ≡ true) × (is_held mode (Byte 0x28) ≡ true)
second_kept mode = grind arith

-- the bytes of a pair are not escape bytes
pub in_range_plain : (b : ℕ) → is_in_range 0x21 0x7E b ≡ true → (b == esc) ≡ false
in_range_plain b h = let low = leb-true 0x21 b (and_parts (leb 0x21 b) (leb b 0x7E) h).0 in ne_eqb b esc (λ e. omega arith)

shift-none : (k : ℕ) (items : List DecodeEvent) → k ≡ 0 → shift k items ≡ items
shift-none k items e = rw (e, shift-zero)

module _ (jis0208 : List ℕ) where
  -- a step meets its law, and what it leaves is sound
  pub record IsStep (mode : DecoderMode) (held : Held) (b : ℕ) (o : Fed × DecoderMode × Held) : Type 0 where
    pub law : MeetsLaw jis0208 mode held b o
    pub kept : is_held o.1 o.2 ≡ true
    pub suffix : drop (done held b o) (bytes_held held ++ b ∷ []) ≡ bytes_held o.2 ++ unread_byte b o.0
    pub fits : length (bytes_held o.2 ++ unread_byte b o.0) ≤ suc (length (bytes_held held))
    pub holds : FedHolds (done held b o) (state_in jis0208 o.1 o.2) o.0
    pub empties : fed_scalars o.0 ≢ [] → bytes_held o.2 ≡ []
    pub need : (weight_of o.2 + length (unread_byte b o.0)) + length (step_events 0 o.0) ≤ suc (weight_of held)

  -- ---- after a whole escape

  -- a whole escape is malformed if a valid escape follows directly, and otherwise has no events; the bytes after it are read in its mode
  pub escaped : (mode : DecoderMode) (e : Escape) (more : List ℕ) → events_in jis0208 mode (esc ∷ second_of e ∷ third_of e ∷ more)
      ≡ cond (is_some (part_mode more)) (Bad 0 3 ∷ []) [] ++ shift 3 (events_in jis0208 (mode_of e) more)
  escaped mode e more = step_escape jis0208 mode (mode_of e) (second_of e) (third_of e) more (grind arith)

  pub escape_alone : (mode : DecoderMode) (e : Escape) (more : List ℕ) → part_mode more ≡ None
      → events_in jis0208 mode (esc ∷ second_of e ∷ third_of e ∷ more) ≡ shift 3 (events_in jis0208 (mode_of e) more)
  escape_alone mode e more h = rw (escaped mode e more, h)

  -- a step after a whole escape is the step without it in its mode, if no valid escape follows directly
  after_step : (mode : DecoderMode) (e : Escape) (s : Start) (b : ℕ) (o : Fed × DecoderMode × Held)
      → ((more : List ℕ) → part_mode (start_bytes s ++ b ∷ more) ≡ None)
      → IsStep (mode_of e) (Begun None s) b o → IsStep mode (Begun (Some e) s) b o
  after_step mode e s b o alone step =
      let further : done (Begun (Some e) s) b o ≡ suc (suc (suc (done (Begun None s) b o))) = omega (arith, step.fits) in
      let law = λ (more : List ℕ). rw (step.law more) at (escape_alone mode e (start_bytes s ++ b ∷ more) (alone more)) in
      grind (arith, law, shift-append, shift-shift, further, step)

  -- ---- less than a whole escape

  in_mode_step : (mode : DecoderMode) (b : ℕ) → (b == esc) ≡ false → IsStep mode (Begun None Nothing) b (read_in_mode mode b)
  unfolding iso_2022_jp_front
  in_mode_step mode b plain = grind (arith, nat_tests, step_one, shift-none)

  lead_step : (mode : DecoderMode) (l b : ℕ) → is_held mode (Byte l) ≡ true → is_two_byte_mode mode ≡ true →
      IsStep mode (Byte l) b (read_trail jis0208 l b)
  unfolding iso_2022_jp_front
  lead_step TwoByte l b lead two = cond_both (b == esc) _ _ (IsStep TwoByte (Byte l) b)
      (λ h. rw (eqb-true b esc h) (let first = in_range_plain l lead in grind (arith, step_one)))
      (λ h. let first = in_range_plain l lead in grind (arith, step_two))
  lead_step _ l b lead two = cc

  start_step : (mode : DecoderMode) (e : Option Escape) (s : Start) (b : ℕ) → IsStep mode (Begun e s) b (read_start mode e s b)
  unfolding part_mode
  start_step mode None Nothing b = cond_both (b == esc) _ _ (IsStep mode (Begun None Nothing) b)
      (λ h. rw (eqb-true b esc h) (grind (arith, shift-none)))
      (λ h. in_mode_step mode b h)
  start_step mode None s b = let kept = second_kept mode in grind (arith, nat_tests, step_no_escape, shift-none)
  start_step mode (Some e) Nothing b = cond_both (b == esc) _ _ (IsStep mode (Begun (Some e) Nothing) b)
      (λ h. rw (eqb-true b esc h) (grind (arith, shift-none)))
      (λ h. after_step mode e Nothing b (read_in_mode (mode_of e) b) (λ more. no_escape b more h) (in_mode_step (mode_of e) b h))
  start_step mode (Some e) EscapeByte b = cond_both (b == 0x24) _ _ (IsStep mode (Begun (Some e) EscapeByte) b)
      (λ h. rw (eqb-true b 0x24 h) (grind (arith, shift-none)))
      (λ h. cond_both (b == 0x28) _ _ (IsStep mode (Begun (Some e) EscapeByte) b)
      (λ i. rw (eqb-true b 0x28 i) (grind (arith, shift-none)))
      (λ i. let none : (more : List ℕ) → part_mode (esc ∷ b ∷ more) ≡ None = grind (arith, nat_tests) in
      after_step mode e EscapeByte b _ none (grind (arith, none, step_no_escape))))
  start_step mode (Some e) s b =
      let all = escaped mode e in let kept = second_kept (mode_of e) in grind (arith, nat_tests, all, step_no_escape, shift-shift, shift-none)

  -- The main theorem of the machine: each byte read is a correct step, if the held-back bytes rest.
  pub read_step : (mode : DecoderMode) (held : Held) (b : ℕ) → is_held mode held ≡ true → is_resting mode held ≡ true
      → IsStep mode held b (read jis0208 mode held b)
  read_step mode (Byte l) b h r = lead_step mode l b h r
  read_step mode (Begun e s) b h r = start_step mode e s b
