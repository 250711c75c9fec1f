-- Writing a held-back scalar and ending the input, as the decoders' loop sees them.
use Rattle.std.proofs.Common.{◌≡◌, ◌≢◌, ◌∙◌, ℕ, ◌++◌, ◌⊎◌, Bool, true, false, Option, Some, None, List, [], ◌∷◌, inl, inr, length, refl, sym, ap, arith}
use Rattle.std.{proofs.{Common.{append-nil, ◌+◌, ◌≤◌, drop, lit≤}, lemmas.Bool.Decides.nat_tests}, specs.{Int.is_in_range, Prelude.is_some}}
use Rattle.legacy_base.proofs.{Beginnings.no_sooner, Iso2022JpFronts.{step_end, step_one, step_two, step_escape, step_no_escape}, Iso2022JpParts.first_part}
use Rattle.legacy_base.{proofs.Shifts.shift-shift, specs.{Beginnings.BeginsWith, Events.shift, Grammar.{iso_2022_jp, events_of}, Lengths.replacement_units}}
use Rattle.legacy_base.specs.{Iso2022Jp.{esc, escape_mode, part_mode, iso_2022_jp_front}, States.{is_two_byte_mode, rests}}
use Rattle.{legacy_base.specs.declared.results.DecodeEvent.{DecodeEvent, TheVariants.{Scalar, Bad}}, legacy_decoder_engine.specs.Moves.{Releases, Reports}}
use Rattle.legacy_japanese.proofs.Iso2022JpNeeds.{same_needs, total_need-falls, replacement_fits, times_one, held_allowed, held_rests, single_narrow}
use Rattle.legacy_japanese.proofs.Iso2022JpStep.{MeetsEnd, ended, escape_alone, escaped, events_in, in_range_plain, second_kept}
use Rattle.legacy_japanese.specs.Iso2022JpMachine.{bytes_held, finish, is_held, is_resting, mode_of, second_of, single, state_in, third_of}
use Rattle.legacy_japanese.specs.{Iso2022JpMachine.weight_of, declared.iso_2022_jp.bytes.{Escape.Escape, Held.{Held, TheVariants.{Byte, Begun}}}}
use Rattle.legacy_japanese.specs.declared.iso_2022_jp.bytes.{Start.TheVariants.{Nothing, EscapeByte, Dollar, Paren}}
use Rattle.legacy_text.proofs.CodeUnits.{length-code_units-bmp}
use Rattle.legacy_base.specs.declared.modes.DecoderMode.{DecoderMode, TheVariants.TwoByte}

-- ---- what the end leaves

-- at the end of the input, only what is allowed is still held back
pub record SoundEnd (held : Held) (new_mode : DecoderMode) (new_held : Held) : Type 0 where
  pub kept : is_held new_mode new_held ≡ true
  pub suffix : drop (ended held new_held) (bytes_held held) ≡ bytes_held new_held
  pub fits : length (bytes_held new_held) + 1 ≤ length (bytes_held held)
  pub short : length (bytes_held new_held) ≤ 3
  pub need : weight_of new_held + 1 ≤ weight_of held

abbrev pub EndsSound : Held → Option (DecoderMode × Held) → Type 0
EndsSound held None = Unit {0}
EndsSound held (Some o) = SoundEnd held o.0 o.1

pub finish_sound : (mode : DecoderMode) (held : Held) → EndsSound held (finish mode held)
finish_sound mode held = grind (arith, second_kept, lit≤)

-- ---- a byte that is held back alone

module _ (jis0208 : List ℕ) where
  -- a byte that is a scalar by itself gives it, whatever bytes follow
  write_law : (mode : DecoderMode) (b c : ℕ) (more : List ℕ) → is_held mode (Byte b) ≡ true → single mode b ≡ Some c
      → events_in jis0208 mode (b ∷ more) ≡ Scalar c ∷ shift 1 (events_in jis0208 mode more)
  unfolding iso_2022_jp_front
  write_law mode b c more held is = grind (arith, step_one, nat_tests)

  -- so the byte has an event
  write_some : (mode : DecoderMode) (b : ℕ) → is_held mode (Byte b) ≡ true → is_resting mode (Byte b) ≡ false → events_in jis0208 mode (b ∷ []) ≢ []
  write_some mode b held two =
      let some : is_some (single mode b) ≡ true = grind (arith, nat_tests) in
      grind (arith, write_law)

  -- the law of writing the byte's scalar
  pub released : (mode : DecoderMode) (b c : ℕ) → is_held mode (Byte b) ≡ true → Some c ≡ single mode b
      → Releases (state_in jis0208 mode (Byte b)) (state_in jis0208 mode (Begun None Nothing)) c
  unfolding events_of
  released mode b c h h1 = grind (arith, write_law, same_needs, single_narrow, length-code_units-bmp, total_need-falls, times_one)

  -- ---- the end of the input

  -- an escape byte that is reported alone begins no valid escape
  malformed_escape : (mode : DecoderMode) (rest : List ℕ) → BeginsWith (events_in jis0208 mode (esc ∷ rest)) (Bad 0 1 ∷ []) → part_mode (esc ∷ rest) ≡ None
  unfolding part_mode
  malformed_escape mode [] g = refl
  malformed_escape mode (a ∷ []) g = refl
  malformed_escape mode (a ∷ b ∷ more) g = by_mode (escape_mode a b) refl
    where
      by_mode : (o : Option DecoderMode) → escape_mode a b ≡ o → o ≡ None
      by_mode None e = refl
      by_mode (Some next) e = let all = step_escape jis0208 mode next a b more e in grind (arith, all, g.1, no_sooner)

  -- an escape byte, and the bytes held back after it, at the end
  escape_end : (mode : DecoderMode) (rest more : List ℕ) → part_mode (esc ∷ rest) ≡ None
      → (more ≡ []) ⊎ BeginsWith (events_in jis0208 mode (esc ∷ rest ++ more)) (Bad 0 1 ∷ [])
      → events_in jis0208 mode (esc ∷ rest ++ more) ≡ Bad 0 1 ∷ shift 1 (events_in jis0208 mode (rest ++ more))
  escape_end mode rest more none h = step_no_escape jis0208 mode (rest ++ more) (elim h [
    | inl z ↦ rw (z, append-nil) none
    | inr g ↦ malformed_escape mode (rest ++ more) g
  ])

  -- a lead at the end, or a lead that is reported alone, has no trail
  malformed_lead : (l : ℕ) (more : List ℕ) → is_in_range 0x21 0x7E l ≡ true → (more ≡ []) ⊎ BeginsWith (events_in jis0208 TwoByte (l ∷ more)) (Bad 0 1 ∷ [])
      → first_part more ≡ []
  unfolding iso_2022_jp_front
  malformed_lead l [] lead h = refl
  malformed_lead l (t ∷ more) lead h = let first = in_range_plain l lead in grind (arith, step_two)

  lead_end : (mode : DecoderMode) (l : ℕ) → is_held mode (Byte l) ≡ true → is_two_byte_mode mode ≡ true →
      MeetsEnd jis0208 mode (Byte l) (finish mode (Byte l))
  unfolding iso_2022_jp_front
  lead_end mode l h h1 = grind (arith, step_one, in_range_plain, malformed_lead)

  -- if an escape byte after a whole escape is reported alone, the whole escape is not malformed
  whole_end : (mode : DecoderMode) (e : Escape) (rest more : List ℕ) → part_mode (esc ∷ rest) ≡ None
      → (more ≡ []) ⊎ BeginsWith (events_in jis0208 mode (esc ∷ second_of e ∷ third_of e ∷ esc ∷ rest ++ more)) (Bad 3 1 ∷ [])
      → events_in jis0208 mode (esc ∷ second_of e ∷ third_of e ∷ esc ∷ rest ++ more) ≡ Bad 3 1 ∷ shift 4 (events_in jis0208 (mode_of e) (rest ++ more))
  whole_end mode e rest more none h =
      let after = esc ∷ rest ++ more in
      let alone : part_mode after ≡ None = elim h [
        | inl z ↦ rw (z, append-nil rest) none
        | inr g ↦ let first = sym (escaped jis0208 mode e after) ∙ g.1 in grind (arith, first)
      ] in
      rw (escape_alone jis0208 mode e after alone, step_no_escape jis0208 (mode_of e) (rest ++ more) alone, shift-shift 3 1) refl

  end_law : (mode : DecoderMode) (held : Held) → is_held mode held ≡ true → is_resting mode held ≡ true → MeetsEnd jis0208 mode held (finish mode held)
  unfolding part_mode
  end_law mode (Byte l) h r = lead_end mode l h r
  end_law mode (Begun None Nothing) h r = step_end jis0208 mode
  end_law mode (Begun None EscapeByte) h r = λ more g. escape_end mode [] more refl g
  end_law mode (Begun None Dollar) h r = λ more g. escape_end mode (0x24 ∷ []) more refl g
  end_law mode (Begun None Paren) h r = λ more g. escape_end mode (0x28 ∷ []) more refl g
  end_law mode (Begun (Some e) Nothing) h r = rw (escape_alone jis0208 mode e [] refl, step_end jis0208 (mode_of e)) refl
  end_law mode (Begun (Some e) EscapeByte) h r = λ more g. whole_end mode e [] more refl g
  end_law mode (Begun (Some e) Dollar) h r = λ more g. whole_end mode e (0x24 ∷ []) more refl g
  end_law mode (Begun (Some e) Paren) h r = λ more g. whole_end mode e (0x28 ∷ []) more refl g

  -- the events of the held-back bytes
  abbrev left : DecoderMode → Held → List DecodeEvent
  left mode held = events_of (iso_2022_jp jis0208 mode) (bytes_held held)

  -- the law of the end, by the result of `finish`
  abbrev EndFacts : DecoderMode → Held → Option (DecoderMode × Held) → Type 0
  EndFacts mode held None = left mode held ≡ []
  EndFacts mode held (Some o) = Reports (state_in jis0208 mode held) (state_in jis0208 o.0 o.1) 1 (length (bytes_held o.1)) × (left mode held ≢ [])

  end_facts : (mode : DecoderMode) (held : Held) (o : Option (DecoderMode × Held)) → MeetsEnd jis0208 mode held o → EndsSound held o → EndFacts mode held o
  unfolding events_of
  end_facts mode held None law sound = law
  end_facts mode held (Some o) law sound =
      let fits = sound.fits in
      let fewer = sound.need in (
        record {
          passed = ended held o.1;
          holding = λ none. (let e = ap length none in absurd (omega arith));
          progress = record {
            counts = omega arith;
            rest = rw (append-nil (bytes_held held), append-nil (bytes_held o.1)) sound.suffix;
            codec = refl;
            events = λ more h. law more (h refl);
          };
          holds = record { some = omega arith; few = omega arith; near = sound.short; held = refl; within = omega arith };
          allowed = held_allowed jis0208 o.0 o.1 sound.kept;
          lowers = λ query. total_need-falls query jis0208 mode o.0 held o.1 0 0 1 (replacement_units query) (omega arith) (replacement_fits query);
        },
        λ none. (let all = law [] (inl refl) in let e = sym none ∙ ap (events_in jis0208 mode) (sym (append-nil (bytes_held held))) ∙ all in cc),
      )

  from_facts : (mode : DecoderMode) (held : Held) (o : Option (DecoderMode × Held)) → EndFacts mode held o
      → (is_some o ≡ true → left mode held ≢ []) × (is_some o ≡ false → left mode held ≡ [])
  from_facts mode held o h = grind arith

  module _ (mode : DecoderMode) (held : Held) (sound : is_held mode held ≡ true) where
    ends : (o : Option (DecoderMode × Held)) → rests (iso_2022_jp jis0208 mode) (bytes_held held) ≡ true → o ≡ finish mode held → EndFacts mode held o
    ends o rest is = grind (arith, end_facts, end_law, held_rests, finish_sound)

    pub ends_none : rests (iso_2022_jp jis0208 mode) (bytes_held held) ≡ true → None ≡ finish mode held → left mode held ≡ []
    ends_none = ends None

    pub ends_reports : (new_mode : DecoderMode) (new_held : Held) → rests (iso_2022_jp jis0208 mode) (bytes_held held) ≡ true
        → Some (new_mode, new_held) ≡ finish mode held
        → Reports (state_in jis0208 mode held) (state_in jis0208 new_mode new_held) 1 (length (bytes_held new_held))
    ends_reports new_mode new_held rest is = (ends (Some (new_mode, new_held)) rest is).0

    -- whether an event is left
    pub rest_known : (t : Bool) → t ≡ is_some (finish mode held) → (t ≡ true → left mode held ≢ []) × (t ≡ false → left mode held ≡ [])
    unfolding events_of
    rest_known t is = rw is (grind (arith, from_facts, ends, held_rests, write_some))
