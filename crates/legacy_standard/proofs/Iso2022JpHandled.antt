-- The ISO-2022-JP decoder's handler reads a list from first to last, as the laws of the grammar do.
use Rattle.std.proofs.Common.{◌≡◌, ℕ, zero, suc, ◌+◌, ◌-◌, ◌*◌, ◌≤◌, Bool, cond, List, [], ◌∷◌, ◌++◌, length, Option, Some, None, refl, add-zero}
use Rattle.std.proofs.{Common.{true, false, inl, inr, arith}, lemmas.Bool.{and_right, cases_Bool, cases_eq, ne_eqb, false≢true}}
use Rattle.std.proofs.lemmas.Bool.Decides.{nat_tests}
use Rattle.std.specs.{Prelude.{is_some, ◌==◌, ◌||◌, ◌&&◌}, Int.is_in_range}
use Rattle.legacy_base.specs.{declared.results.DecodeEvent.DecodeEvent, declared.results.DecodeEvent.TheVariants.{Scalar, Bad}, Events.shift, Fronts.Front}
use Rattle.legacy_base.specs.{Fronts.{reads, malformed, front_events}, declared.modes.DecoderMode.{DecoderMode, TheVariants.{Ascii, Roman, Katakana, TwoByte}}}
use Rattle.legacy_base.specs.Iso2022Jp.{esc, escape_mode, part_mode, is_two_byte_mode}
use Rattle.legacy_base.specs.{Iso2022Jp.{iso_2022_jp_front, iso_2022_jp_events}, Grammar.{iso_2022_jp, events_of}}
use Rattle.legacy_base.proofs.{Shifts.{shift-append, shift-shift, shift-zero}, Iso2022JpParts.{first_part, no_escape}, Iso2022JpFronts.{step_end, step_one}}
use Rattle.legacy_base.proofs.Iso2022JpFronts.{step_two, step_no_escape, step_escape, escape_ahead}
use Rattle.legacy_tables.specs.{Unicode.AreBytes, Indexes.idx}
use Rattle.legacy_standard.specs.Queue.{Item, byte, end_of_queue, continue, finished, error, code_point, returns, restores, code_point_or_error}
use Rattle.legacy_standard.specs.Iso2022Jp.{Iso2022JpDecoderState, ascii, roman, katakana, leading_byte, trailing_byte, escape_start, escape, escape_state}
use Rattle.legacy_standard.specs.{Iso2022Jp.{Iso2022Jp, iso_2022_jp_handler, length_and_after, iso_2022_jp_malformed}, DecoderLaw.HandlerDecodes}
use Rattle.legacy_standard.proofs.Turns.{Proceeds, steady, at_end, goes_on, error_at, error_at_end, gives}
use Rattle.legacy_standard.specs.DecoderLaw as decoders

-- ---- turns, by the number of bytes read

module _ (jis0208 : List ℕ) where
  -- The handler gives these events from any place if `pos` bytes are read, at least `few` of them in the current
  -- sequence.
  record Gives (s : Iso2022Jp) (few pos : ℕ) (queue : List ℕ) (es : List DecodeEvent) : Type 0 where
    from : (place size : ℕ) → place + size ≡ pos → few ≤ size → Proceeds (iso_2022_jp_handler jis0208) iso_2022_jp_malformed s place size queue es

module _ {jis0208 : List ℕ} {s t : Iso2022Jp} {few pos : ℕ} where
  out-end : iso_2022_jp_handler jis0208 s end_of_queue ≡ returns finished t → Gives jis0208 s few pos [] []
  out-end e = record { from = λ place size at enough. at_end e }

  out-continue : {then next b : ℕ} {rest : List ℕ} {es : List DecodeEvent} → Gives jis0208 t then next rest es →
      iso_2022_jp_handler jis0208 s (byte b) ≡ returns continue t → then ≤ few + 1 → pos + 1 ≡ next → Gives jis0208 s few pos (b ∷ rest) es
  out-continue out e more is = record {
    from = λ place size at enough. goes_on e (out.from place (size + 1 - 0) (omega arith) (omega arith));
  }

  out-error : {next b begin n : ℕ} (after : ℕ) (bytes : List ℕ) {rest : List ℕ} {es : List DecodeEvent} → Gives jis0208 t 0 next (bytes ++ rest) es →
      iso_2022_jp_handler jis0208 s (byte b) ≡ restores bytes error t → length bytes ≤ few + 1 → pos + 1 ≡ next + length bytes →
      length_and_after s.state s.leading (byte b) ≡ (n, after) → next - after - n ≡ begin → Gives jis0208 s few pos (b ∷ rest) (Bad begin n ∷ es)
  out-error {next} {b} after bytes out e more is extent begins = record {
    from = λ place size at enough.
        let read : place + (size + 1 - length bytes) ≡ next = omega arith in
        rw (extent, read, begins) at
        (error_at {s = s} {place = place} {size = size} {b = b} bytes e (out.from (place + (size + 1 - length bytes)) 0 (omega arith) (omega arith)));
  }

  out-error_at_end : {next begin n : ℕ} (after : ℕ) {bytes : List ℕ} {es : List DecodeEvent} → Gives jis0208 t 0 next bytes es →
      iso_2022_jp_handler jis0208 s end_of_queue ≡ restores bytes error t → length bytes ≤ few → pos ≡ next + length bytes →
      length_and_after s.state s.leading end_of_queue ≡ (n, after) → next - after - n ≡ begin → Gives jis0208 s few pos [] (Bad begin n ∷ es)
  out-error_at_end {next} after {bytes} out e more is extent begins = record {
    from = λ place size at enough.
        let read : place + (size - length bytes) ≡ next = omega arith in
        rw (extent, read, begins) at
        (error_at_end {s = s} {place = place} {size = size} bytes e (out.from (place + (size - length bytes)) 0 (omega arith) (omega arith)));
  }

  out-scalar : {next b c : ℕ} {rest : List ℕ} {es : List DecodeEvent} → Gives jis0208 t 0 next rest es →
      iso_2022_jp_handler jis0208 s (byte b) ≡ returns (code_point c) t → pos + 1 ≡ next → Gives jis0208 s few pos (b ∷ rest) (Scalar c ∷ es)
  out-scalar {c = c} out e is = record {
    from = λ place size at enough. gives (c ∷ []) e (out.from (place + (size + 1 - 0)) 0 (omega arith) (omega arith));
  }

-- ---- the decoder

-- the handler's state for a mode
abbrev state_of : DecoderMode → Iso2022JpDecoderState
state_of Ascii = ascii
state_of Roman = roman
state_of Katakana = katakana
state_of TwoByte = leading_byte

-- the decoder between two forms
abbrev at_rest : DecoderMode → ℕ → Bool → Iso2022Jp
at_rest m l flag = record { state = state_of m; output_state = state_of m; leading = l; output = flag }

-- the decoder after an escape byte
abbrev started : DecoderMode → ℕ → Bool → Iso2022Jp
started m l flag = record { state = escape_start; output_state = state_of m; leading = l; output = flag }

abbrev after_two : DecoderMode → ℕ → Bool → Iso2022Jp
after_two m l flag = record { state = escape; output_state = state_of m; leading = l; output = flag }

abbrev after_lead : ℕ → Iso2022Jp
after_lead l = record { state = trailing_byte; output_state = leading_byte; leading = l; output = false }

-- the events before those of the list: if the output flag is set and a valid escape follows, an error for the escape
-- before it
abbrev again : Bool → ℕ → List ℕ → List DecodeEvent
again flag pos bytes = cond (flag && is_some (part_mode bytes)) (Bad (pos - 3) 3 ∷ []) []

again-none : (flag : Bool) (pos : ℕ) (bytes : List ℕ) → part_mode bytes ≡ None → again flag pos bytes ≡ []
again-none flag pos bytes none = rw (none, and_right flag false refl) refl

-- an escape byte before a byte that no escape has there begins no valid escape
part_mode-none : (a : ℕ) (rest : List ℕ) → (a == 0x24 || a == 0x28) ≡ false → part_mode (esc ∷ a ∷ rest) ≡ None
unfolding part_mode
part_mode-none a rest h = grind arith

module _ (jis0208 : List ℕ) where
  -- the events of a list that begins after `pos` bytes
  abbrev events : DecoderMode → ℕ → List ℕ → List DecodeEvent
  events m pos bytes = shift pos (iso_2022_jp_events jis0208 m bytes)

  abbrev IsHandledFrom : DecoderMode → ℕ → Bool → ℕ → List ℕ → Type 0
  IsHandledFrom m l flag pos bytes = Gives jis0208 (at_rest m l flag) 0 pos bytes (again flag pos bytes ++ events m pos bytes)

  -- all lists with at most n bytes are decoded, at any position
  record Below (n : ℕ) : Type 0 where
    decodes : (m : DecoderMode) (l : ℕ) (flag : Bool) (pos : ℕ) (bytes : List ℕ) → length bytes ≤ n → IsHandledFrom m l flag pos bytes

  -- ---- escapes

  none-outs : (m : DecoderMode) (flag : Bool) (pos : ℕ) (rest : List ℕ) → part_mode (esc ∷ rest) ≡ None →
      again flag pos (esc ∷ rest) ++ events m pos (esc ∷ rest) ≡ Bad pos 1 ∷ events m (pos + 1) rest
  none-outs m flag pos rest none = grind (arith, again-none, step_no_escape, shift-shift, add-zero)

  some-outs : (m new : DecoderMode) (flag : Bool) (pos a b : ℕ) (more : List ℕ) → escape_mode a b ≡ Some new →
      again flag pos (esc ∷ a ∷ b ∷ more) ++ events m pos (esc ∷ a ∷ b ∷ more)
      ≡ cond flag (Bad (pos - 3) 3 ∷ []) [] ++ (again true (pos + 3) more ++ events new (pos + 3) more)
  some-outs m new flag pos a b more valid =
      rw (escape_ahead a b new more valid, step_escape jis0208 m new a b more valid, shift-append, shift-shift pos 3 (iso_2022_jp_events jis0208 new more))
      (grind arith)

  -- The third byte of an escape. A valid escape switches to its mode; otherwise the two bytes are restored.
  third : (m : DecoderMode) (flag : Bool) (pos a b : ℕ) (more : List ℕ) → Below (suc (suc (length more))) → (o : Option DecoderMode) → escape_mode a b ≡ o →
      Gives jis0208 (after_two m a flag) 1 (pos + 2) (b ∷ more) (again flag pos (esc ∷ a ∷ b ∷ more) ++ events m pos (esc ∷ a ∷ b ∷ more))
  unfolding iso_2022_jp_handler part_mode
  third m flag pos a b more below None e =
      let state_is : escape_state a b ≡ None = grind arith in
      let next : IsHandledFrom m 0 false (pos + 1) (a ∷ b ∷ more) = below.decodes _ _ _ _ _ (omega arith) in
      rw (none-outs m flag pos (a ∷ b ∷ more) e) (out-error 0 (a ∷ b ∷ []) next (rw state_is refl) (omega arith) (omega arith) (rw state_is refl) (omega arith))
  third m flag pos a b more below (Some new) e =
      let state_is : escape_state a b ≡ Some (state_of new) = grind arith in
      let next : IsHandledFrom new 0 true (pos + 3) more = below.decodes _ _ _ _ _ (omega arith) in
      rw (some-outs m new flag pos a b more e)
      (elim (cases_Bool flag) [
        | inl f ↦ rw f (out-error 3 [] next (rw state_is refl) (omega arith) (omega arith) (rw state_is refl) (omega arith))
        | inr f ↦ rw f (out-continue next (rw state_is refl) (omega arith) (omega arith))
      ])

  -- the bytes after an escape byte
  after_escape_byte : (m : DecoderMode) (l : ℕ) (flag : Bool) (pos : ℕ) (rest : List ℕ) → Below (length rest) →
      Gives jis0208 (started m l flag) 0 (pos + 1) rest (again flag pos (esc ∷ rest) ++ events m pos (esc ∷ rest))
  unfolding iso_2022_jp_handler part_mode
  after_escape_byte m l flag pos [] below =
      rw (none-outs m flag pos [] refl) (out-error_at_end 0 (below.decodes _ l _ _ _ (omega arith)) refl (omega arith) (omega arith) refl (omega arith))
  after_escape_byte m l flag pos (a ∷ rest) below = elim (cases_Bool (a == 0x24 || a == 0x28)) [
    | inl h ↦ out-continue (second rest below) (rw h refl) (omega arith) (omega arith)
    | inr h ↦
        let next : IsHandledFrom m l false (pos + 1) (a ∷ rest) = below.decodes _ _ _ _ _ (omega arith) in
        rw (none-outs m flag pos (a ∷ rest) (part_mode-none a rest h)) (out-error 0 (a ∷ []) next (rw h refl) (omega arith) (omega arith) refl (omega arith))
  ]
    where
      second : (rest : List ℕ) → Below (length (a ∷ rest)) →
          Gives jis0208 (after_two m a flag) 1 (pos + 2) rest (again flag pos (esc ∷ a ∷ rest) ++ events m pos (esc ∷ a ∷ rest))
      second [] below =
          rw (none-outs m flag pos (a ∷ []) refl)
          (out-error_at_end 0 (below.decodes _ 0 _ _ _ (omega arith)) refl (omega arith) (omega arith) refl (omega arith))
      second (b ∷ more) below = third m flag pos a b more below (escape_mode a b) refl

  -- ---- bodies

  -- a front of n bytes that gives this scalar, or is malformed
  abbrev front_of : ℕ → Option ℕ → Front
  front_of n None = malformed n
  front_of n (Some c) = reads n (c ∷ [])

  one-outs : (m : DecoderMode) (flag : Bool) (pos b : ℕ) (more : List ℕ) (o : Option ℕ) → (b == esc) ≡ false →
      iso_2022_jp_front jis0208 m b (first_part more) ≡ front_of 1 o →
      again flag pos (b ∷ more) ++ events m pos (b ∷ more) ≡ front_events pos (front_of 1 o) ++ events m (pos + 1) more
  one-outs m flag pos b more o h k = grind (arith, nat_tests, step_one, again-none, no_escape, shift-shift, add-zero)

  two-outs : (m : DecoderMode) (flag : Bool) (pos b t : ℕ) (more : List ℕ) (o : Option ℕ) → (b == esc) ≡ false → (t == esc) ≡ false →
      iso_2022_jp_front jis0208 m b (t ∷ first_part more) ≡ front_of 2 o →
      again flag pos (b ∷ t ∷ more) ++ events m pos (b ∷ t ∷ more) ≡ front_events pos (front_of 2 o) ++ events m (pos + 1 + 1) more
  two-outs m flag pos b t more o h k e = grind (arith, nat_tests, step_two, again-none, no_escape, shift-shift, add-zero)

  -- the handler returns the scalar, or error
  returned : {d : Iso2022Jp} {few pos next b : ℕ} {more : List ℕ} (m : DecoderMode) (l begin n : ℕ) (o : Option ℕ) →
      Gives jis0208 (at_rest m l false) 0 next more (events m next more) →
      iso_2022_jp_handler jis0208 d (byte b) ≡ returns (code_point_or_error o) (at_rest m l false) → pos + 1 ≡ next →
      length_and_after d.state d.leading (byte b) ≡ (n, 0) → begin + n ≡ next →
      Gives jis0208 d few pos (b ∷ more) (front_events begin (front_of n o) ++ events m next more)
  returned m l begin n None h e is extent ends = out-error 0 [] h e (omega arith) (omega arith) extent (omega arith)
  returned m l begin n (Some c) h e is extent ends = out-scalar h e is

  -- the byte is the first of two in the mode
  abbrev is_lead : DecoderMode → ℕ → Bool
  is_lead m b = is_two_byte_mode m && is_in_range 0x21 0x7E b

  -- the scalar of one byte
  abbrev own : Front → Option ℕ
  own (reads n (c ∷ scalars)) = Some c
  own _ = None

  own-front : (m : DecoderMode) (b : ℕ) (rest : List ℕ) → is_lead m b ≡ false →
      iso_2022_jp_front jis0208 m b rest ≡ front_of 1 (own (iso_2022_jp_front jis0208 m b []))
  unfolding iso_2022_jp_front
  own-front m b rest h = grind arith

  own-handler : (m : DecoderMode) (l : ℕ) (flag : Bool) (b : ℕ) → (b == esc) ≡ false → is_lead m b ≡ false →
      iso_2022_jp_handler jis0208 (at_rest m l flag) (byte b) ≡ returns (code_point_or_error (own (iso_2022_jp_front jis0208 m b []))) (at_rest m l false)
  unfolding iso_2022_jp_handler iso_2022_jp_front
  own-handler m l flag b unescaped h = grind (arith, nat_tests)

  -- in a mode each error is for one byte
  own-extent : (m : DecoderMode) (l : ℕ) (item : Item) → length_and_after (state_of m) l item ≡ (1, 0)
  own-extent m l item = grind arith

  -- a form of one byte
  one_byte : (m : DecoderMode) (l : ℕ) (flag : Bool) (pos b : ℕ) (more : List ℕ) → (b == esc) ≡ false → Below (length more) → is_lead m b ≡ false →
      IsHandledFrom m l flag pos (b ∷ more)
  one_byte m l flag pos b more unescaped below h =
      rw (one-outs m flag pos b more _ unescaped (own-front m b (first_part more) h))
      (returned m l pos 1 _ (below.decodes _ l _ _ _ (omega arith)) (own-handler m l flag b unescaped h) refl (own-extent m l (byte b)) refl)

  -- the byte after a lead byte
  after_lead_byte : (flag : Bool) (pos b : ℕ) (more : List ℕ) → (b == esc) ≡ false → is_in_range 0x21 0x7E b ≡ true → Below (length more) →
      Gives jis0208 (after_lead b) 1 (pos + 1) more (again flag pos (b ∷ more) ++ events TwoByte pos (b ∷ more))
  unfolding iso_2022_jp_handler iso_2022_jp_front
  after_lead_byte flag pos b [] unescaped lead below =
      rw (one-outs TwoByte flag pos b [] None unescaped refl)
      (out-error_at_end 0 (below.decodes _ b _ _ _ (omega arith)) refl (omega arith) (omega arith) refl (omega arith))
  after_lead_byte flag pos b (t ∷ rest) unescaped lead below = elim (cases_eq t esc) [
    | inl is ↦
        let shorter : Below (length rest) = record { decodes = λ m l flag pos bytes h. below.decodes m l flag pos bytes (omega arith) } in
        rw (one-outs TwoByte flag pos b (t ∷ rest) None unescaped (rw is refl), is)
        (out-error 1 [] (after_escape_byte TwoByte b false (pos + 1) rest shorter) refl (omega arith) (omega arith) refl (omega arith))
    | inr other ↦
        let unescaped_t = ne_eqb t esc other in
        let o : Option ℕ = cond (is_in_range 0x21 0x7E t) (idx jis0208 ((b - 0x21) * 94 + (t - 0x21))) None in
        rw (two-outs TwoByte flag pos b t rest o unescaped unescaped_t (grind arith))
        (returned TwoByte b pos 2 o (below.decodes _ b _ _ _ (omega arith)) (grind arith) refl (rw unescaped_t refl) (omega arith))
  ]

  lead_byte : (m : DecoderMode) (l : ℕ) (flag : Bool) (pos b : ℕ) (more : List ℕ) → (b == esc) ≡ false → Below (length more) → is_lead m b ≡ true →
      IsHandledFrom m l flag pos (b ∷ more)
  unfolding iso_2022_jp_handler
  lead_byte TwoByte l flag pos b more unescaped below h =
      out-continue (after_lead_byte flag pos b more unescaped h below) (rw (unescaped, h) refl) (omega arith) refl
  lead_byte _ l flag pos b more unescaped below h = absurd (false≢true h)

  -- ---- whole lists

  nothing : (m : DecoderMode) (l : ℕ) (flag : Bool) (pos : ℕ) → IsHandledFrom m l flag pos []
  unfolding part_mode iso_2022_jp_handler
  nothing m l flag pos = rw (and_right flag false refl, step_end jis0208 m) (out-end {t = at_rest m l flag} (grind arith))

  first : (m : DecoderMode) (l : ℕ) (flag : Bool) (pos b : ℕ) (more : List ℕ) → Below (length more) → IsHandledFrom m l flag pos (b ∷ more)
  unfolding iso_2022_jp_handler
  first m l flag pos b more below = elim (cases_eq b esc) [
    | inl is ↦ rw is (out-continue (after_escape_byte m l flag pos more below) (grind arith) (omega arith) refl)
    | inr other ↦
        let unescaped = ne_eqb b esc other in
        elim (cases_Bool (is_lead m b)) [
          | inl h ↦ lead_byte m l flag pos b more unescaped below h
          | inr h ↦ one_byte m l flag pos b more unescaped below h
        ]
  ]

  below_all : (n : ℕ) → Below n
  below_all n = record { decodes = all n }
    where
      all : (n : ℕ) (m : DecoderMode) (l : ℕ) (flag : Bool) (pos : ℕ) (bytes : List ℕ) → length bytes ≤ n → IsHandledFrom m l flag pos bytes
      all n m l flag pos [] h = nothing m l flag pos
      all zero m l flag pos (b ∷ more) h = absurd (omega arith)
      all (suc n) m l flag pos (b ∷ more) h =
          first m l flag pos b more (record { decodes = λ m l flag pos bytes k. all n m l flag pos bytes (omega arith) })

pub iso_2022_jp_handled : (jis0208 bytes : List ℕ) → AreBytes bytes →
    HandlerDecodes (decoders.iso_2022_jp jis0208) bytes (events_of (iso_2022_jp jis0208 Ascii) bytes)
unfolding events_of
iso_2022_jp_handled jis0208 bytes all =
    let decoded : IsHandledFrom jis0208 Ascii 0 false 0 bytes = (below_all jis0208 (length bytes)).decodes _ _ _ _ _ (omega arith) in
    steady (rw (shift-zero (iso_2022_jp_events jis0208 Ascii bytes)) at (decoded.from 0 0 refl (omega arith)))
