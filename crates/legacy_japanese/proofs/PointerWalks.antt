-- A walk over the pointers of index jis0208 lists the codes of the scalars that have the code of their pointer. The other
-- scalars are looked up one by one.
use Rattle.std.proofs.{Common.{◌∙◌, ◌≡◌, ℕ, ◌+◌, ◌/◌, ◌<◌, ◌≤◌, List, length, slice_index, arith, option_map}, lemmas.Bool.Decides.nat_tests}
use Rattle.legacy_tables.specs.{Indexes.FlatIndexes, TableChecks.AreAccepted, Walks.IsFilled, Pointers.{euc_jp_pointer_of, shift_jis_pointer_of}}
use Rattle.legacy_tables.{specs.declared.tables.packed.PackedPart.{TheVariants.{EucJpOrder, ShiftJisOrder}, PackedPart}, proofs.Accepted.jis0208-scalars}
use Rattle.legacy_tables.proofs.PointerBounds.{euc-jp-bound, shift-jis-bound}
use Rattle.legacy_base.specs.{EucJp.{euc_jp_code, euc_jp_bytes}, ShiftJis.{shift_jis_code, shift_jis_bytes}, Iso2022Jp.{iso_2022_jp_code, iso_2022_jp_pair}}
use Rattle.legacy_base.specs.Encoders.{Codec, euc_jp, shift_jis, iso_2022_jp}
use Rattle.legacy_encoder_engine.{proofs.{WalkedPairs.{GoesByPointers, by-pairs, halves, walked-right}, CachedPairs.all-right}, specs.CachedPairs.AreAllPairsOf}
use Rattle.legacy_encoder_engine.specs.CachedPairs.{IsRightEntry}
use Rattle.legacy_japanese.specs.{Iso2022JpEncoder.{IsWholeEntry, iso_2022_jp_mark, iso_2022_jp_mark-some}, ByPointer.GoesByPointer, EucJpCodes.euc_jp_mark}
use Rattle.legacy_japanese.specs.{EucJpCodes.euc_jp_mark-some, ShiftJisCodes.{shift_jis_mark, shift_jis_mark-some}}

-- a list that was filled by pointers has all pairs after the other scalars were looked up
pub all-listed : {codec : Codec} {part : PackedPart} {mark : ℕ → ℕ} {index : List ℕ} → GoesByPointers codec part mark index GoesByPointer
    → (filled new : List ℕ) → length filled ≡ 65536 → IsFilled part mark index filled → length new ≡ length filled
    → (((c : ℕ) → c < 65536 → GoesByPointer c → IsRightEntry codec c (slice_index filled c))
    → (c : ℕ) → c < 65536 → IsRightEntry codec c (slice_index new c)) → AreAllPairsOf codec new
all-listed by filled new long walk same ask = all-right _ new (same ∙ long) (ask (walked-right _ _ _ _ _ by filled long walk))

module _ (flat : FlatIndexes) (accepted : AreAccepted flat) where
  pub euc-jp-by-pointers : GoesByPointers (euc_jp flat.jis0208 flat.jis0212) EucJpOrder euc_jp_mark flat.jis0208 GoesByPointer
  unfolding euc_jp_code
  euc-jp-by-pointers = by-pairs _ _ _ _ GoesByPointer euc_jp_bytes 8836 (jis0208-scalars flat accepted) euc_jp_mark-some (λ c d. grind (arith, d.ascii))
      (λ c. euc-jp-bound c flat.jis0208) (λ p h. halves (p / 94 + 0xA1) _ (omega arith))
      (λ c by. grind (arith, nat_tests, by.ascii, by.yen, by.overline, by.minus, by.katakana))

  shift-jis-code : (c : ℕ) → GoesByPointer c → shift_jis_code flat.jis0208 c ≡ option_map shift_jis_bytes (shift_jis_pointer_of flat.jis0208 c)
  unfolding shift_jis_code
  shift-jis-code c by = grind (arith, nat_tests, by.ascii, by.yen, by.overline, by.minus, by.katakana)

  pub shift-jis-by-pointers : GoesByPointers (shift_jis flat.jis0208) ShiftJisOrder shift_jis_mark flat.jis0208 GoesByPointer
  shift-jis-by-pointers =
      by-pairs _ _ _ _ GoesByPointer shift_jis_bytes 11280 (jis0208-scalars flat accepted) shift_jis_mark-some (λ c d. grind (arith, d.ascii))
      (shift-jis-bound flat accepted) (λ p h. halves (p / 188 + _) _ (grind (arith, nat_tests))) shift-jis-code

  iso-2022-jp-code : (c : ℕ) → GoesByPointer c → iso_2022_jp_code flat.jis0208 flat.katakana c ≡ option_map iso_2022_jp_pair (euc_jp_pointer_of flat.jis0208 c)
  unfolding iso_2022_jp_code
  iso-2022-jp-code c by = grind (arith, nat_tests, by.ascii, by.yen, by.overline, by.minus, by.katakana)

  iso-2022-jp-by-pointers : GoesByPointers (iso_2022_jp flat.jis0208 flat.katakana) EucJpOrder iso_2022_jp_mark flat.jis0208 GoesByPointer
  iso-2022-jp-by-pointers =
      by-pairs _ _ _ _ GoesByPointer iso_2022_jp_pair 8836 (jis0208-scalars flat accepted) iso_2022_jp_mark-some (λ c d. grind (arith, d.ascii))
      (λ c. euc-jp-bound c flat.jis0208) (λ p h. halves (p / 94 + 0x21) _ (omega arith)) iso-2022-jp-code

  -- so the list is right for the scalars of the walk
  pub walked-listed : (pairs : List ℕ) → length pairs ≡ 65536 → IsFilled EucJpOrder iso_2022_jp_mark flat.jis0208 pairs
      → (c : ℕ) → c < 65536 → GoesByPointer c → IsWholeEntry flat c (slice_index pairs c)
  walked-listed pairs all filled c h d =
      let right = walked-right _ _ _ _ _ iso-2022-jp-by-pointers pairs all filled c h d in
      let past : 0x80 ≤ c = grind (arith, d.ascii) in
      record { told = λ n. let told = right.told n in (told.0, told.1.past past); whole = λ scalar empty. right.whole scalar past empty }
