-- The handlers of EUC-KR, Big5 and Shift_JIS, with a leading byte and a trailing byte, give the events of their
-- grammars.
use Rattle.std.proofs.{Common.{◌≡◌, ℕ, cond, List, [], ◌∷◌, refl, true, false, arith}, lemmas.Bool.Decides.nat_tests}
use Rattle.std.specs.{Prelude.{◌==◌, ◌||◌}, Char.is_ascii, Option.{option_map_or}}
use Rattle.legacy_base.specs.Fronts.{reads, malformed, trail_front}
use Rattle.legacy_base.specs.{LeadForms.{lead_front, lead_pair, pair_scalars}, EucKr.{euc_kr, euc_kr_pointer}, Profile.is_lead}
use Rattle.legacy_base.specs.{Big5.{big5_front, big5_pair, big5_pointer, big5_scalars}, ShiftJis.{shift_jis_front, shift_jis_pair, shift_jis_pointer}}
use Rattle.legacy_base.specs.{ShiftJis.{shift_jis_scalars, is_shift_jis_lead}, Grammar.{big5, shift_jis, events_of}}
use Rattle.legacy_base.proofs.FrontLaws.{lead_front-of, big5_front-of, shift_jis_front-of}
use Rattle.legacy_tables.specs.{Unicode.is_katakana_byte}
use Rattle.legacy_standard.specs.{Queue.{Handled, lead_handler}, EucKr.{euc_kr_handler, euc_kr_trailing}}
use Rattle.legacy_standard.specs.{Big5.{big5_handler, big5_trailing}, ShiftJis.shift_jis_handler}
use Rattle.legacy_standard.proofs.{HandledFronts.{Reads, whole, by_test, one, malformed_one, returns_scalars, pair}, Turns.IsDecodedBy}

pub lead-some : (b : ℕ) → is_lead b ≡ true → (b == 0) ≡ false
lead-some b h = grind (arith, nat_tests)

-- the common handler, by the scalars of a lead and a trail
lead-reads : (trailing : ℕ → ℕ → Handled ℕ) (scalars : ℕ → ℕ → List ℕ) → ((b t : ℕ) → trailing b t ≡ returns_scalars 0 (scalars b t) t)
    → (b : ℕ) (rest : List ℕ) → Reads (lead_handler trailing) 0 (b ∷ rest)
    (cond (is_ascii b) (reads 1 (b ∷ [])) (cond (is_lead b) (trail_front 1 (scalars b) rest) (malformed 1)))
lead-reads trailing scalars returns b rest =
    by_test (is_ascii b) _ _ (λ h. one (rw h refl)) (λ h. by_test (is_lead b) _ _
    (λ l. let some = lead-some b l in
    pair {s = b} (rw (h, l) refl) (scalars b) (rw some refl) (λ t. rw some (returns b t)) rest)
    (λ l. malformed_one (rw (h, l) refl)))

-- ---- EUC-KR

module _ (index : List ℕ) where
  euc_kr-reads : (b : ℕ) (rest : List ℕ) → Reads (euc_kr_handler index) 0 (b ∷ rest) (lead_front is_lead euc_kr_pointer index b rest)
  unfolding lead_front lead_pair euc_kr_handler
  euc_kr-reads = lead-reads (euc_kr_trailing index) (pair_scalars euc_kr_pointer index) (λ b t. grind arith)

  pub euc_kr_handled : IsDecodedBy (euc_kr index) (euc_kr_handler index) 0
  unfolding events_of euc_kr_handler
  euc_kr_handled bytes all =
      whole (lead_front is_lead euc_kr_pointer index) (lead_front-of index (λ p. absurd p) is_lead euc_kr_pointer) euc_kr-reads refl bytes

-- ---- Big5

module _ (index : List ℕ) where
  big5-reads : (b : ℕ) (rest : List ℕ) → Reads (big5_handler index) 0 (b ∷ rest) (big5_front index b rest)
  unfolding big5_front big5_pair big5_handler
  big5-reads = lead-reads (big5_trailing index) (λ b t. option_map_or (big5_scalars index) (big5_pointer b t) []) (λ b t. grind (arith, nat_tests))

  pub big5_handled : IsDecodedBy (big5 index) (big5_handler index) 0
  unfolding events_of big5_handler
  big5_handled bytes all = whole (big5_front index) (big5_front-of index (λ p. absurd p)) big5-reads refl bytes

-- ---- Shift_JIS

module _ (jis0208 : List ℕ) where
  shift_jis-reads : (b : ℕ) (rest : List ℕ) → Reads (shift_jis_handler jis0208) 0 (b ∷ rest) (shift_jis_front jis0208 b rest)
  unfolding shift_jis_front shift_jis_pair shift_jis_handler
  shift_jis-reads b rest =
      by_test (is_ascii b || b == 0x80) _ _ (λ h. one (rw h refl))
      (λ h. by_test (is_katakana_byte b) _ _ (λ k. one (rw (h, k) refl))
      (λ k. by_test (is_shift_jis_lead b) _ _
      (λ l. let some : (b == 0) ≡ false = grind (arith, nat_tests) in
      pair {s = b} (rw (h, k, l) refl) (λ t. option_map_or (shift_jis_scalars jis0208) (shift_jis_pointer b t) []) (rw some refl)
      (λ t. rw some (grind (arith, nat_tests))) rest)
      (λ l. malformed_one (rw (h, k, l) refl))))

  pub shift_jis_handled : IsDecodedBy (shift_jis jis0208) (shift_jis_handler jis0208) 0
  unfolding events_of shift_jis_handler
  shift_jis_handled bytes all = whole (shift_jis_front jis0208) (shift_jis_front-of jis0208 (λ p. absurd p)) shift_jis-reads refl bytes
