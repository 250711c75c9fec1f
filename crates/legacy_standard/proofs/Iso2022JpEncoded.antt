-- The ISO-2022-JP encoder's handler gives the events of its definition.
use Rattle.std.proofs.Common.{◌≡◌, ◌∙◌, ℕ, Bool, cond, List, [], ◌∷◌, Option, Some, None, inl, inr, refl, true, false, arith}
use Rattle.std.proofs.{lemmas.Bool.{cases_Bool, false≢true}, lemmas.Bool.Decides.nat_tests}
use Rattle.std.specs.{Prelude.{◌==◌, ◌||◌}, Int.is_in_range, Char.is_ascii}
use Rattle.legacy_base.specs.declared.{results.EncodeEvent.EncodeEvent, modes.EncoderMode.{EncoderMode, TheVariants.{Ascii, Roman, TwoByte}}}
use Rattle.legacy_base.specs.Iso2022Jp.{mode_after_text, settled_mode, iso_2022_jp_code, iso_2022_jp_pointer_of, iso_2022_jp_reported, escape_to}
use Rattle.legacy_base.proofs.Iso2022JpEncoding.{text_events, text_events-here, text_events-escape, text_events-end, mode_for, mode_for-twice}
use Rattle.legacy_tables.specs.Pointers.{euc_jp_pointer_of, minus_as_hyphen}
use Rattle.legacy_standard.specs.{TextQueue.{TextItem, scalar, TextHandled, bytes, returns, restores}, Iso2022JpEncoder.{Iso2022JpEncoderState, ascii}}
use Rattle.legacy_standard.specs.{Iso2022JpEncoder.{roman, jis0208, set_scalar, at_pointer, at_set, iso_2022_jp_encodes}, EncoderLaw.{HasRows, HasFolds}}
use Rattle.legacy_standard.proofs.TextTurns.{IsEncodedBy, WritesText, by_code, steady, ends, end_bytes, gives}
use Rattle.legacy_base.specs.Encoders as codecs

-- the handler's state for a mode
abbrev state_of : EncoderMode → Iso2022JpEncoderState
state_of Ascii = ascii
state_of Roman = roman
state_of TwoByte = jis0208

abbrev same_mode : EncoderMode → EncoderMode → Bool
same_mode Ascii Ascii = true
same_mode Roman Roman = true
same_mode TwoByte TwoByte = true
same_mode _ _ = false

same_self : (mode : EncoderMode) → same_mode mode mode ≡ true
same_self mode = grind arith

module _ (index katakana_index : List ℕ) where
  abbrev handler : Iso2022JpEncoderState → TextItem → TextHandled Iso2022JpEncoderState
  handler = iso_2022_jp_encodes index katakana_index

  abbrev events : EncoderMode → List ℕ → List EncodeEvent
  events mode text = text_events index katakana_index mode text true

  abbrev Gives : EncoderMode → List ℕ → Type 0
  Gives mode text = WritesText handler (state_of mode) text (events mode text)

  abbrev Goes : List ℕ → Type 0
  Goes more = (mode : EncoderMode) → Gives mode more

  -- the mode after the scalar c, and its code
  abbrev home : EncoderMode → ℕ → EncoderMode
  home = mode_for index katakana_index

  abbrev code : ℕ → Option (List ℕ)
  code = iso_2022_jp_code index katakana_index

  -- the handler's result for the scalar c in its mode
  abbrev here : EncoderMode → ℕ → TextHandled Iso2022JpEncoderState
  here mode c = returns (by_code (iso_2022_jp_reported c) (code c)) (state_of mode)

  -- the handler's result in any mode: in another mode it writes an escape, and goes on with the scalar d
  abbrev acts : EncoderMode → EncoderMode → ℕ → ℕ → TextHandled Iso2022JpEncoderState
  acts mode new c d = cond (same_mode mode new) (here mode c) (restores (d ∷ []) (bytes (escape_to new)) (state_of new))

  -- the scalar c, or d in its place, in the mode of c
  at_home : (mode : EncoderMode) (c d : ℕ) (more : List ℕ) → home mode c ≡ mode → handler (state_of mode) (scalar d) ≡ here mode c → Gives mode more →
      WritesText handler (state_of mode) (d ∷ more) (events mode (c ∷ more))
  at_home mode c d more is does h = rw (text_events-here index katakana_index mode c is more true) (gives _ (code c) [] does h)

  -- a scalar in any mode
  goes_on : (c d : ℕ) (more : List ℕ) → ((mode : EncoderMode) → handler (state_of mode) (scalar c) ≡ acts mode (home mode c) c d) →
      ((mode : EncoderMode) → handler (state_of mode) (scalar d) ≡ acts mode (home mode c) c d) → Goes more → Goes (c ∷ more)
  goes_on c d more does again goes mode =
      let new = home mode c in
      let twice : home new c ≡ new = mode_for-twice index katakana_index mode c in
      elim (cases_Bool (same_mode mode new)) [
        | inl e ↦ at_home mode c c more (grind arith) (does mode ∙ rw e refl) (goes mode)
        | inr e ↦
            rw (text_events-escape index katakana_index mode new c refl (λ is. grind arith) more true)
            (gives 0 (Some (escape_to new)) (d ∷ []) (does mode ∙ rw e refl)
            (at_home new c d more twice (again new ∙ rw (twice, same_self) refl) (goes new)))
      ]

  -- the handler does not look the scalar up
  abbrev needs_no_index : ℕ → Bool
  needs_no_index c = is_ascii c || (c == 0xA5 || c == 0x203E)

  unindexed-acts : (c : ℕ) → needs_no_index c ≡ true → (mode : EncoderMode) → handler (state_of mode) (scalar c) ≡ acts mode (home mode c) c c
  unfolding iso_2022_jp_encodes iso_2022_jp_code mode_after_text settled_mode
  unindexed-acts c h mode = grind (arith, nat_tests)

  -- ---- scalars that are looked up

  -- the handler replaces the scalar if needed, and looks it up
  past : (c : ℕ) → needs_no_index c ≡ false → (mode : EncoderMode)
      → handler (state_of mode) (scalar c) ≡ at_set index (state_of mode) (set_scalar katakana_index c) c
  unfolding iso_2022_jp_encodes
  past c p mode = grind (arith, nat_tests)

  -- the scalar that replaces c in the handler, which is not replaced again
  record Looked (c : ℕ) : Type 0 where
    set : ℕ
    set_is : set_scalar katakana_index c ≡ Some set
    pointer_is : iso_2022_jp_pointer_of index katakana_index c ≡ euc_jp_pointer_of index set
    again : needs_no_index set ≡ false
    set_again : set_scalar katakana_index set ≡ Some set
    same : euc_jp_pointer_of index set ≡ None → set ≡ c

  module _ (rows : HasRows index) (folds : HasFolds index katakana_index) where
    looked : (c : ℕ) → needs_no_index c ≡ false → Looked c
    looked c p = elim (cases_Bool (is_in_range 0xFF61 0xFF9F c)) [
      | inl r ↦
          let f = folds c r in
          record {
            set = f.entry;
            set_is = grind (arith, nat_tests, f.entry_is);
            pointer_is = grind (arith, nat_tests, f.entry_is);
            again = grind (arith, nat_tests, f.looked_up);
            set_again = grind (arith, nat_tests, f.looked_up);
            same = λ e. absurd (false≢true (rw e at (f.has_pointer)));
          }
      | inr r ↦ record {
        set = minus_as_hyphen c;
        set_is = grind (arith, nat_tests);
        pointer_is = grind (arith, nat_tests);
        again = grind (arith, nat_tests);
        set_again = grind (arith, nat_tests);
        same = λ e. grind (arith, nat_tests, rows.hyphen);
      }
    ]

    module _ (c : ℕ) (p : needs_no_index c ≡ false) (l : Looked c) where
      by_pointer : (mode : EncoderMode) → at_pointer (state_of mode) (euc_jp_pointer_of index l.set) l.set ≡ acts mode (home mode c) c l.set
      unfolding iso_2022_jp_code mode_after_text settled_mode
      by_pointer mode = grind (arith, nat_tests, l.pointer_is, l.same)

      -- the result of the handler for c and for the scalar that replaces it
      looked-acts : (d : ℕ) → needs_no_index d ≡ false → set_scalar katakana_index d ≡ Some l.set → (mode : EncoderMode) →
          handler (state_of mode) (scalar d) ≡ acts mode (home mode c) c l.set
      looked-acts d q e mode = past d q mode ∙ rw (e, rows.first l.set) (by_pointer mode)

    -- ---- any scalar, and any text

    any : (c : ℕ) (more : List ℕ) → Goes more → Goes (c ∷ more)
    any c more = elim (cases_Bool (needs_no_index c)) [
      | inl h ↦ goes_on c c more (unindexed-acts c h) (unindexed-acts c h)
      | inr p ↦ let l = looked c p in goes_on c l.set more (looked-acts c p l c p l.set_is) (looked-acts c p l l.set l.again l.set_again)
    ]

    nothing : (mode : EncoderMode) → Gives mode []
    unfolding iso_2022_jp_encodes
    nothing Ascii = rw (text_events-end index katakana_index Ascii) (ends refl)
    nothing Roman = rw (text_events-end index katakana_index Roman) (end_bytes (escape_to Ascii) refl (ends refl))
    nothing TwoByte = rw (text_events-end index katakana_index TwoByte) (end_bytes (escape_to Ascii) refl (ends refl))

    all_texts : (text : List ℕ) → Goes text
    all_texts [] = nothing
    all_texts (c ∷ more) = any c more (all_texts more)

    pub iso_2022_jp_encoded : IsEncodedBy (codecs.iso_2022_jp index katakana_index) handler ascii
    iso_2022_jp_encoded text all = steady (all_texts text Ascii)
