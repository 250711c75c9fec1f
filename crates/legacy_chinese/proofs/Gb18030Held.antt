-- The gb18030 decoder holds back only what its machine may hold back, and its moves are the machine's.
use Rattle.std.proofs.Common.{◌≡◌, ◌≢◌, ℕ, ◌+◌, ◌/◌, ◌%◌, ◌≤◌, List, [], ◌∷◌, length, get_or, true, false, cond, refl, sym, arith, Some}
use Rattle.std.{proofs.lemmas.{Bool.Decides.nat_tests, List.Elements.{All-nil, All-cons}}, specs.{Char.{IsScalar, is_ascii_digit}, Prelude.option_to_list}}
use Rattle.legacy_base.specs.{Gb18030.{gb18030_scalars, gb18030_range_pointer}, Grammar.{Grammar, gb18030, events_of}}
use Rattle.{legacy_base.specs.States.{is_lead, gb18030_may_hold, rests, DecoderState, state_of}, legacy_chinese.specs.Gb18030Decoder.held_bytes}
use Rattle.legacy_chinese.specs.{Gb18030Machine.{gb18030_step, gb18030_machine}, Gb18030Shown.{lead_other, gb18030_shown}, PairPlaces.pair_place}
use Rattle.legacy_chinese.specs.declared.gb18030.{decoder.Held.{Held, TheVariants.Nothing}, digit.Digit.Digit as HeldDigit}
use Rattle.legacy_decoder_engine.proofs.{LanePlaces.entry_is, PairPlaces.{none_past, pair_entry}, Widths.idx_below}
use Rattle.legacy_decoder_engine.proofs.YieldedForms.{single_yields, pair_yields, four_yields}
use Rattle.legacy_decoder_engine.specs.{Feeding.Took, LaneCodes.ArePairs, LanePlaces.trail_place, Places.lead_place, ReadAhead.{Yields, IsPair}}
use Rattle.legacy_decoder_engine.specs.{Moves.{IsCovered, Feeds, FeedsMalformedByte, Releases, Reports, read_need}, Shown.IsShown, declared.held_lead.Lead.Lead}
use Rattle.{legacy_decoder_engine.specs.declared.moves.Fed.{Fed, TheVariants.One}, legacy_tables.specs.{Indexes.{range, idx}, Unicode.{IsByte, AreBytes}}}
use Rattle.legacy_tables.{proofs.Accepted.{length-gb18030, gb18030-below, gb18030-scalars, range-scalar}, specs.AcceptedTables.AcceptedIndexes}
use Rattle.legacy_text.specs.EncodingForm.{EncodingForm, wide_need}
use Rattle.legacy_decoder_engine.proofs.Feeding as moves

may : (held : Held) → gb18030_may_hold (held_bytes held) ≡ true
may held = grind (arith, nat_tests)

are_bytes : (held : Held) → AreBytes (held_bytes held)
are_bytes held = grind (arith, nat_tests, All-nil, All-cons)

-- ---- pairs

trail_not_digit : (index : List ℕ) (lead trail c : ℕ) → gb18030_scalars index lead trail ≡ c ∷ [] → is_ascii_digit trail ≡ false
trail_not_digit index lead trail c e = grind (arith, nat_tests)

module _ (tables : AcceptedIndexes) where
  abbrev g : Grammar
  g = gb18030 tables.flat.gb18030 tables.flat.ranges

  -- the state with these bytes held back
  abbrev state : Held → DecoderState
  state held = state_of g (held_bytes held)

  shown : IsShown g (gb18030_machine tables.flat.gb18030 tables.flat.ranges)
  shown = gb18030_shown tables.flat.gb18030 tables.flat.ranges

  pub malformed_byte : (b : ℕ) → IsByte b → b ≡ 0xFF → FeedsMalformedByte (state_of g []) b
  malformed_byte b is_byte e = moves.malformed_byte shown b is_byte (rw e refl) refl

  pub covered : (held : Held) → IsCovered (state held)
  covered held = moves.covered shown _ (may held) (are_bytes held)

  pub feeds : (held : Held) (b : ℕ) → IsByte b → rests g (held_bytes held) ≡ true → (fed : Fed) (kept : List ℕ) →
      Took (gb18030_step tables.flat.gb18030 tables.flat.ranges (held_bytes held) b) (held_bytes held) b fed kept →
      Feeds (state held) b (state_of g kept) fed
  feeds held = moves.feeds shown _ (may held) (are_bytes held)

  -- a trail after a lead gives the scalar of the pair
  pub takes_pair : (first : Lead) (b c : ℕ) → c ∷ [] ≡ cond (is_lead first.byte) (gb18030_scalars tables.flat.gb18030 first.byte b) [] → IsScalar c →
      Took (gb18030_step tables.flat.gb18030 tables.flat.ranges (first.byte ∷ []) b) (first.byte ∷ []) b (One c) []
  takes_pair first b c e scalar = grind (arith, nat_tests, trail_not_digit tables.flat.gb18030 first.byte b c)

  -- reading a byte needs no more than any scalar
  pub reads_wide : (form : EncodingForm) (held : Held) (b : ℕ) → read_need form (state held) b ≤ wide_need form
  reads_wide form held b = grind (arith, nat_tests)

  -- a held-back digit is written; the bytes after it stay held back
  pub releases : (held : Held) (digit : HeldDigit) (rest : List ℕ) → held_bytes held ≡ digit.byte ∷ rest → Releases (state held) (state_of g rest) digit.byte
  releases held digit rest e =
      let release = moves.releases shown (digit.byte ∷ rest) (rw e at (may held)) (rw e at (are_bytes held)) 1 digit.byte in
      rw e (release (grind (arith, nat_tests)) (grind (arith, nat_tests)) (grind (arith, nat_tests)))

  pub reports : (held : Held) → rests g (held_bytes held) ≡ true → held_bytes held ≢ [] → Reports (state held) (state_of g []) (length (held_bytes held)) 0
  reports held = moves.reports_all shown _ (may held) (are_bytes held)

  -- there is something to report exactly if bytes are held back
  pub ends_none : (held : Held) → length (held_bytes held) ≡ 0 → events_of g (held_bytes held) ≡ []
  ends_none held = moves.ends_empty shown _ (may held) (are_bytes held)

  pub ends_some : (held : Held) → (held ≡ Nothing → ⊥) → events_of g (held_bytes held) ≢ []
  ends_some held n = moves.ends_held shown _ (may held) (are_bytes held) (grind arith)

  -- ---- what is read ahead

  short : length tables.flat.gb18030 ≤ 65535
  short = let most = length-gb18030 tables.flat tables.accepted in omega arith

  -- the entry at the sum of the places of a lead and a trail
  pub gb18030_entry : (lead trail : ℕ) → option_to_list (idx tables.flat.gb18030 (lead_place lead + trail_place 0x80 0xFE trail))
      ≡ cond (is_lead lead) (gb18030_scalars tables.flat.gb18030 lead trail) []
  unfolding lead_place
  gb18030_entry lead trail = grind (arith, pair_entry, none_past, short)

  -- a lead and a trail
  pub pair_form : (lead trail c : ℕ) → IsByte lead → IsByte trail → IsScalar c
      → c ∷ [] ≡ cond (is_lead lead) (gb18030_scalars tables.flat.gb18030 lead trail) [] → IsPair g lead trail c
  pair_form lead trail c byte byte' scalar e =
      let narrow = gb18030-below tables.flat tables.accepted in
      let yields = pair_yields shown lead trail c byte byte' scalar in
      grind (arith, nat_tests, idx_below tables.flat.gb18030, trail_not_digit tables.flat.gb18030 lead trail c, lead_other, yields)

  pub pair_read : (lead trail c : ℕ) → IsByte lead → IsByte trail → IsScalar c
      → c ∷ [] ≡ cond (is_lead lead) (gb18030_scalars tables.flat.gb18030 lead trail) [] → Yields g (lead ∷ trail ∷ []) (c ∷ [])
  pair_read lead trail c byte byte' scalar e = (pair_form lead trail c byte byte' scalar e).1

  -- the byte of the euro sign
  pub euro_read : (b : ℕ) → b ≡ 0x80 → Yields g (b ∷ []) (0x20AC ∷ [])
  euro_read b e = rw e (single_yields shown 0x80 0x20AC (omega arith) (grind (arith, nat_tests)) refl refl)

  -- the same of a code of two bytes
  pub lane_pair : ArePairs g tables.flat.gb18030 (pair_place 190 0x80)
  lane_pair code small past within high some =
      let p = pair_place 190 0x80 code in
      let scalar : IsScalar (get_or tables.flat.gb18030 p 0) = gb18030-scalars tables.flat tables.accepted p 0 within in
      let entry = entry_is (get_or tables.flat.gb18030 p 0) some in
      let none = none_past tables.flat.gb18030 short in
      (scalar, pair_form (code % 256) (code / 256) _ (omega arith) (omega arith) scalar (grind (arith, nat_tests, none, entry)))

  -- four bytes that give a scalar
  pub four : (a b c d x : ℕ) → is_lead a ≡ true → is_ascii_digit b ≡ true → is_lead c ≡ true → is_ascii_digit d ≡ true →
      Some x ≡ range tables.flat.ranges (gb18030_range_pointer a b c d) → Yields g (a ∷ b ∷ c ∷ d ∷ []) (x ∷ [])
  four a b c d x first second third fourth e =
      let scalar = range-scalar tables.flat tables.accepted (gb18030_range_pointer a b c d) x (sym e) in
      let yields = four_yields shown a b c d x in grind (arith, nat_tests, lead_other, yields)
