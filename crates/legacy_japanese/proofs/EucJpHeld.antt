-- The decoder of EUC-JP holds back only what its machine may, and its moves are the machine's.
use Rattle.std.{proofs.{Common.{◌≡◌, ℕ, List, [], ◌∷◌, length, true, refl, arith, ◌≢◌, ◌≤◌, ◌/◌, ◌%◌, get_or}, lemmas.Bool.Decides.nat_tests}, specs.Char.IsScalar}
use Rattle.std.proofs.lemmas.List.Elements.{All-nil, All-cons}
use Rattle.legacy_base.specs.{EucJp.euc_jp_scalars, Fronts.malformed, Grammar.{Grammar, euc_jp, events_of}, States.{euc_jp_may_hold, is_euc_jp_lead, state_of}}
use Rattle.legacy_decoder_engine.specs.{Steps.finish, Shown.IsShown, Moves.{IsCovered, Feeds, FeedsMalformedByte, Reports}, Feeding.Took}
use Rattle.legacy_decoder_engine.specs.{LaneCodes.ArePairs, LanePlaces.row_place, declared.moves.Fed.Fed, ReadAhead.{IsPair, Yields}}
use Rattle.legacy_decoder_engine.proofs.{Widths.idx_below, YieldedForms.{pair_yields, three_yields}}
use Rattle.{legacy_decoder_engine.proofs.LanePlaces.entry_is, legacy_japanese.specs.EucJpMachine.{euc_jp_machine, euc_jp_first, euc_jp_step}}
use Rattle.legacy_japanese.specs.{declared.euc_jp.decoder.Held.{TheVariants.Nothing, Held}, EucJpDecoder.held_bytes, EucJpShown.euc_jp_is_shown}
use Rattle.legacy_tables.specs.{AcceptedTables.AcceptedIndexes, Unicode.{IsByte, AreBytes, katakana_of}}
use Rattle.legacy_tables.proofs.Accepted.{jis0208-below, jis0208-scalars, length-jis0208}
use Rattle.legacy_decoder_engine.proofs.Feeding as moves

may : (held : Held) → euc_jp_may_hold (held_bytes held) ≡ true
may held = grind (arith, nat_tests)

are_bytes : (held : Held) → AreBytes (held_bytes held)
are_bytes held = grind (arith, All-nil, All-cons)

module _ (tables : AcceptedIndexes) where
  abbrev grammar : Grammar
  grammar = euc_jp tables.flat.jis0208 tables.flat.jis0212

  shown : IsShown grammar (euc_jp_machine tables.flat.jis0208 tables.flat.jis0212)
  shown = euc_jp_is_shown tables

  pub malformed_byte : (b : ℕ) → IsByte b → euc_jp_first b ≡ finish (malformed 1) → FeedsMalformedByte (state_of grammar []) b
  malformed_byte b is_byte e = moves.malformed_byte shown b is_byte e refl

  pub covered : (held : Held) → IsCovered (state_of grammar (held_bytes held))
  covered held = moves.covered shown (held_bytes held) (may held) (are_bytes held)

  pub feeds : (held : Held) (b : ℕ) → IsByte b → (fed : Fed) (kept : List ℕ) →
      Took (euc_jp_step tables.flat.jis0208 tables.flat.jis0212 (held_bytes held) b) (held_bytes held) b fed kept →
      Feeds (state_of grammar (held_bytes held)) b (state_of grammar kept) fed
  feeds held b byte fed kept took = moves.feeds shown (held_bytes held) (may held) (are_bytes held) b byte refl fed kept took

  pub reports : (held : Held) → held_bytes held ≢ [] → Reports (state_of grammar (held_bytes held)) (state_of grammar []) (length (held_bytes held)) 0
  reports held some = moves.reports_all shown (held_bytes held) (may held) (are_bytes held) refl some

  -- there is something to report exactly if bytes are held back
  pub ends_none : (held : Held) → length (held_bytes held) ≡ 0 → events_of (euc_jp tables.flat.jis0208 tables.flat.jis0212) (held_bytes held) ≡ []
  ends_none held none = moves.ends_empty shown (held_bytes held) (may held) (are_bytes held) none

  pub ends_some : (held : Held) → (held ≡ Nothing → ⊥) → events_of (euc_jp tables.flat.jis0208 tables.flat.jis0212) (held_bytes held) ≢ []
  ends_some held n = moves.ends_some shown (held_bytes held) (may held) (are_bytes held) refl (grind arith)

  -- ---- what is read ahead

  -- a pair of JIS X 0208 that gives one scalar
  pub pair : (lead trail c : ℕ) → IsByte lead → IsByte trail → IsScalar c → is_euc_jp_lead lead ≡ true →
      euc_jp_scalars tables.flat.jis0208 lead trail ≡ c ∷ [] → IsPair grammar lead trail c
  pair lead trail c byte byte' scalar is e =
      let narrow = jis0208-below tables.flat tables.accepted in
      let yields = pair_yields shown lead trail c byte byte' scalar in
      grind (arith, nat_tests, idx_below, yields)

  pub pair_read : (lead trail c : ℕ) → IsByte lead → IsByte trail → IsScalar c → is_euc_jp_lead lead ≡ true →
      euc_jp_scalars tables.flat.jis0208 lead trail ≡ c ∷ [] → Yields grammar (lead ∷ trail ∷ []) (c ∷ [])
  pair_read lead trail c byte byte' scalar is e = (pair lead trail c byte byte' scalar is e).1

  -- half-width katakana
  pub katakana_read : (first b c : ℕ) → first ≡ 0x8E → 0xA1 ≤ b → b ≤ 0xDF → c ≡ katakana_of b → Yields grammar (first ∷ b ∷ []) (c ∷ [])
  katakana_read first b c is low high e =
      let scalar : IsScalar c = grind (arith, nat_tests) in
      let yields = pair_yields shown 0x8E b c (omega arith) (omega arith) scalar refl refl refl refl refl in
      rw is (yields (grind (arith, nat_tests)))

  -- a pair of JIS X 0212
  pub three_read : (first lead trail c : ℕ) → first ≡ 0x8F → IsByte lead → IsByte trail → IsScalar c → is_euc_jp_lead lead ≡ true →
      euc_jp_scalars tables.flat.jis0212 lead trail ≡ c ∷ [] → Yields grammar (first ∷ lead ∷ trail ∷ []) (c ∷ [])
  three_read first lead trail c is byte byte' scalar is_lead e =
      let yields = three_yields shown 0x8F lead trail c (omega arith) byte byte' scalar in
      rw is (grind (arith, nat_tests, yields))

  -- the same of a code of two bytes, by the entry at its place
  pub lane_pair : ArePairs grammar tables.flat.jis0208 (row_place 0xA1 0x5D 94 0xA1)
  lane_pair code small past within high some =
      let c = get_or tables.flat.jis0208 (row_place 0xA1 0x5D 94 0xA1 code) 0 in
      let short = length-jis0208 tables.flat tables.accepted in
      let scalar : IsScalar c = jis0208-scalars tables.flat tables.accepted _ 0 within in
      let entry = entry_is c some in
      (scalar, pair (code % 256) (code / 256) c (omega arith) (omega arith) scalar (grind (arith, nat_tests, short)) (grind (arith, nat_tests, short, entry)))
