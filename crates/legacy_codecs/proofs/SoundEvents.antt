-- The events of a list in each codec: malformed sequences are inside it, and scalars are Unicode scalar values.
use Rattle.std.proofs.{Common.{◌≡◌, ℕ, ◌+◌, ◌<◌, ◌≤◌, List, [], ◌∷◌, Bool, true, false, length, sym, subst, arith, ◌||◌, ◌&&◌, Some}, lemmas.Bool.cond_both}
use Rattle.std.proofs.{lemmas.Bool.and_parts, lemmas.Bool.Decides.nat_tests, lemmas.List.Elements.{All-nil, All-cons, All-head, All-tail}}
use Rattle.std.specs.{Char.IsScalar, Char.Utf16.{is_high_surrogate, is_low_surrogate, surrogate_pair_char}}
use Rattle.legacy_tables.specs.{Unicode.{IsByte, AreBytes, AreScalars}, Indexes.range}
use Rattle.legacy_tables.proofs.Accepted.{index-scalars, big5-scalars, jis0208-scalars, jis0212-scalars, gb18030-scalars, range-scalar}
use Rattle.legacy_tables.proofs.AcceptedTable.{table-scalars}
use Rattle.legacy_base.specs.{Fronts.{reads, malformed}, SingleByte.single_byte_front, UserDefined.user_defined_front, Big5.big5_front, LeadForms.lead_front}
use Rattle.legacy_base.specs.{ShiftJis.shift_jis_front, EucJp.euc_jp_front, Gb18030.gb18030_front, Replacement.replacement_events, Utf16.unit_of}
use Rattle.legacy_base.specs.{Utf16.utf16_events, Grammar.{single_byte, user_defined, replacement, utf16, lead_trail, big5, shift_jis}}
use Rattle.legacy_base.specs.Grammar.{euc_jp, gb18030, iso_2022_jp}
use Rattle.legacy_base.specs.{Grammar.events_of, Laws.{IsFrontOf, IsOfAcceptedTables, HasSoundEvents}}
use Rattle.legacy_base.proofs.FrontLaws.{front_of-malformed, single_byte_front-of, user_defined_front-of, lead_front-of, big5_front-of, shift_jis_front-of}
use Rattle.legacy_base.proofs.{FrontLaws.{euc_jp_front-of, gb18030_front-of}, EventLaws.{none_of, one_malformed, cut_sound, iso_2022_jp_sound}}
use Rattle.legacy_miscellaneous.specs.Utf16Fronts.{single_unit_front, unit_front, utf16_front}
use Rattle.legacy_miscellaneous.proofs.{Utf16Cut.utf16_cut, Utf16Held.unit_below}

-- ---- UTF-16

unpaired_scalar : (u : ℕ) → u < 0x1_0000 → (is_high_surrogate u || is_low_surrogate u) ≡ false → IsScalar u
unpaired_scalar u h k = grind (arith, nat_tests)

paired_scalar : (u v : ℕ) → is_high_surrogate u ≡ true → is_low_surrogate v ≡ true → IsScalar (surrogate_pair_char u v)
paired_scalar u v h k = grind (arith, nat_tests)

module _ {Q : Type 0} (be : Bool) where
  gives_one : (size n c : ℕ) → 1 ≤ n → n ≤ 4 → n ≤ size → (Q → IsScalar c) → IsFrontOf size Q (reads n (c ∷ []))
  gives_one size n c some short within h =
      record { some = some; within = within; short = short; few = (omega arith, omega arith); scalars = λ q. All-cons IsScalar c [] (h q) (All-nil IsScalar) }

  single_of : (size u : ℕ) → 2 ≤ size → (Q → u < 0x1_0000) → IsFrontOf size Q (single_unit_front u)
  single_of size u two below =
      cond_both (is_high_surrogate u || is_low_surrogate u) (malformed 2) (reads 2 (u ∷ [])) (IsFrontOf size Q)
      (λ _. front_of-malformed size 2 (omega arith) two (omega arith))
      (λ k. gives_one size 2 u (omega arith) (omega arith) two (λ q. unpaired_scalar u (below q) k))

  unit_front-of : (u : ℕ) (rest : List ℕ) (size : ℕ) → size ≡ length rest + 2 → (Q → u < 0x1_0000) → IsFrontOf size Q (unit_front be u rest)
  unit_front-of u [] size is below = single_of size u (omega arith) below
  unit_front-of u (c ∷ []) size is below =
      cond_both (is_high_surrogate u) (malformed 3) (single_unit_front u) (IsFrontOf size Q)
      (λ _. front_of-malformed size 3 (omega arith) (omega arith) (omega arith)) (λ _. single_of size u (omega arith) below)
  unit_front-of u (c ∷ d ∷ rest) size is below =
      let v = unit_of be c d in
      cond_both (is_high_surrogate u && is_low_surrogate v) (reads 4 (surrogate_pair_char u v ∷ [])) (single_unit_front u) (IsFrontOf size Q)
      (λ k.
      let both = and_parts (is_high_surrogate u) (is_low_surrogate v) k in
      gives_one size 4 (surrogate_pair_char u v) (omega arith) (omega arith) (omega arith) (λ q. paired_scalar u v both.0 both.1))
      (λ _. single_of size u (omega arith) below)

  utf16_front-of : (b : ℕ) (rest : List ℕ) → (Q → AreBytes (b ∷ rest)) → IsFrontOf (length (b ∷ rest)) Q (utf16_front be b rest)
  unfolding utf16_front
  utf16_front-of a [] are = front_of-malformed 1 1 (omega arith) (omega arith) (omega arith)
  utf16_front-of a (b ∷ rest) are =
      unit_front-of (unit_of be a b) rest (length (a ∷ b ∷ rest)) (omega arith)
      (λ q. unit_below be a b (All-head IsByte a (b ∷ rest) (are q)) (All-head IsByte b rest (All-tail IsByte a (b ∷ rest) (are q))))

-- ---- all codecs

pub sound_events : HasSoundEvents
unfolding events_of replacement_events utf16_events
sound_events (single_byte table) bytes =
    let Q = IsOfAcceptedTables (single_byte table) × AreBytes bytes in
    cut_sound Q (single_byte_front table) (λ b rest are. single_byte_front-of {P = Q} table (λ q. table-scalars table q.0) b rest) bytes (λ q. q.1)
sound_events user_defined bytes =
    let Q = IsOfAcceptedTables user_defined × AreBytes bytes in
    cut_sound Q user_defined_front (λ b rest are. user_defined_front-of {P = Q} b (λ q. All-head IsByte b rest (are q)) rest) bytes (λ q. q.1)
sound_events (replacement true) bytes = none_of (IsOfAcceptedTables (replacement true) × AreBytes bytes) (length bytes)
sound_events (replacement false) [] = none_of (IsOfAcceptedTables (replacement false) × AreBytes []) 0
sound_events (replacement false) (b ∷ bytes) =
    one_malformed (IsOfAcceptedTables (replacement false) × AreBytes (b ∷ bytes)) (length (b ∷ bytes)) 1 (omega arith) (omega arith) (omega arith)
sound_events (utf16 be) bytes =
    let Q = IsOfAcceptedTables (utf16 be) × AreBytes bytes in
    rw (utf16_cut be 0 bytes) (cut_sound Q (utf16_front be) (λ b rest are. utf16_front-of {Q = Q} be b rest are) bytes (λ q. q.1))
sound_events (big5 index) bytes =
    let Q = IsOfAcceptedTables (big5 index) × AreBytes bytes in
    let checked : Q → AreScalars index = λ q. subst AreScalars (sym q.0.2) (big5-scalars q.0.0 q.0.1) in
    cut_sound Q (big5_front index) (λ b rest are. big5_front-of {P = Q} index checked b rest) bytes (λ q. q.1)
sound_events (lead_trail is_lead_byte pointers index) bytes =
    let Q = IsOfAcceptedTables (lead_trail is_lead_byte pointers index) × AreBytes bytes in
    let checked : Q → AreScalars index = λ q. subst AreScalars (sym q.0.3) (index-scalars q.0.0 q.0.1 q.0.2) in
    cut_sound Q (lead_front is_lead_byte pointers index) (λ b rest are. lead_front-of {P = Q} index checked is_lead_byte pointers b rest) bytes (λ q. q.1)
sound_events (shift_jis jis0208) bytes =
    let Q = IsOfAcceptedTables (shift_jis jis0208) × AreBytes bytes in
    let checked : Q → AreScalars jis0208 = λ q. subst AreScalars (sym q.0.2) (jis0208-scalars q.0.0 q.0.1) in
    cut_sound Q (shift_jis_front jis0208) (λ b rest are. shift_jis_front-of {P = Q} jis0208 checked b rest) bytes (λ q. q.1)
sound_events (euc_jp jis0208 jis0212) bytes =
    let Q = IsOfAcceptedTables (euc_jp jis0208 jis0212) × AreBytes bytes in
    let checked : Q → AreScalars jis0208 = λ q. subst AreScalars (sym q.0.2) (jis0208-scalars q.0.0 q.0.1) in
    let checked_too : Q → AreScalars jis0212 = λ q. subst AreScalars (sym q.0.3) (jis0212-scalars q.0.0 q.0.1) in
    cut_sound Q (euc_jp_front jis0208 jis0212) (λ b rest are. euc_jp_front-of {P = Q} jis0208 jis0212 checked checked_too b rest) bytes (λ q. q.1)
sound_events (gb18030 index ranges) bytes =
    let Q = IsOfAcceptedTables (gb18030 index ranges) × AreBytes bytes in
    let checked : Q → AreScalars index = λ q. subst AreScalars (sym q.0.2) (gb18030-scalars q.0.0 q.0.1) in
    let ranged : (p c : ℕ) → range ranges p ≡ Some c → Q → IsScalar c = λ p c e q. range-scalar q.0.0 q.0.1 p c (subst (λ r. range r p ≡ Some c) q.0.3 e) in
    cut_sound Q (gb18030_front index ranges) (λ b rest are. gb18030_front-of {P = Q} index ranges checked ranged b rest) bytes (λ q. q.1)
sound_events (iso_2022_jp jis0208 mode) bytes =
    let Q = IsOfAcceptedTables (iso_2022_jp jis0208 mode) × AreBytes bytes in
    let checked : Q → AreScalars jis0208 = λ q. subst AreScalars (sym q.0.2) (jis0208-scalars q.0.0 q.0.1) in
    iso_2022_jp_sound Q jis0208 checked mode bytes
