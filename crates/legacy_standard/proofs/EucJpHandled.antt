-- The EUC-JP decoder's handler gives the events of its grammar.
use Rattle.std.proofs.{Common.{◌≡◌, ℕ, ◌+◌, List, [], ◌∷◌, refl, true, false, arith}, lemmas.Bool.eqb-true, lemmas.Bool.Decides.nat_tests}
use Rattle.std.specs.{Prelude.{◌==◌}, Char.is_ascii}
use Rattle.legacy_base.specs.{declared.results.DecodeEvent.DecodeEvent, Fronts.Front, EucJp.{is_euc_jp_lead, euc_jp_scalars, euc_jp_katakana, euc_jp_third}}
use Rattle.legacy_base.specs.{EucJp.{euc_jp_second, euc_jp_pair, euc_jp_front}, Grammar.{euc_jp, events_of}}
use Rattle.legacy_base.proofs.FrontLaws.{euc_jp_front-of}
use Rattle.legacy_tables.specs.{Unicode.{is_katakana_byte, katakana_of}}
use Rattle.legacy_standard.specs.{Processing.{all_read, process}, EucJp.{euc_jp_state, euc_jp_initial, euc_jp_handler}}
use Rattle.legacy_standard.proofs.{Turns.{goes_on, error_at_end}, HandledFronts.{Reads, whole, by_test, one, malformed_one, trailing, third_trailing}}
use Rattle.legacy_standard.proofs.{HandledFronts.{lead_alone, pair}, Turns.{Proceeds, IsDecodedBy}}

module _ (jis0208 jis0212 : List ℕ) where
  abbrev Has : List ℕ → Front → Type 0
  Has = Reads (euc_jp_handler jis0208 jis0212) euc_jp_initial

  -- at the end of the queue the jis0212 flag does not matter
  flag_at_end : (place : ℕ) (es : List DecodeEvent) → Proceeds (euc_jp_handler jis0208 jis0212) all_read euc_jp_initial place 0 [] es →
      Proceeds (euc_jp_handler jis0208 jis0212) all_read (euc_jp_state true 0) place 0 [] es
  unfolding process euc_jp_handler
  flag_at_end place es h = record { turns = h.turns; proceeds = λ more. grind (arith, h.proceeds more) }

  katakana-reads : (rest : List ℕ) → Has (0x8E ∷ rest) (euc_jp_katakana rest)
  unfolding euc_jp_katakana euc_jp_handler
  katakana-reads [] = lead_alone refl refl
  katakana-reads (t ∷ rest) =
      by_test (is_katakana_byte t) _ _ (λ h. trailing refl (katakana_of t ∷ []) (rw h refl)) (λ h. trailing refl [] (rw h refl))

  third-reads : (t : ℕ) (rest : List ℕ) → is_euc_jp_lead t ≡ true → Has (0x8F ∷ t ∷ rest) (euc_jp_third jis0212 t rest)
  unfolding euc_jp_third euc_jp_handler
  third-reads t [] l =
      let some : (t == 0) ≡ false = grind (arith, nat_tests) in
      record { go = λ place es h. goes_on refl (goes_on (rw l refl) (error_at_end {s = euc_jp_state true t} [] (rw some refl) (flag_at_end (place + 2) es h))) }
  third-reads t (u ∷ rest) l =
      let not_8e : (t == 0x8E) ≡ false = grind (arith, nat_tests) in
      let not_8f : (t == 0x8F) ≡ false = grind (arith, nat_tests) in
      let some : (t == 0) ≡ false = grind (arith, nat_tests) in
      third_trailing refl {r = euc_jp_state true t} (rw l refl) (euc_jp_scalars jis0212 t u) (rw (not_8e, not_8f, some) (grind arith))

  second-reads : (rest : List ℕ) → Has (0x8F ∷ rest) (euc_jp_second jis0212 rest)
  unfolding euc_jp_second euc_jp_handler
  second-reads [] = lead_alone refl refl
  second-reads (t ∷ rest) = by_test (is_euc_jp_lead t) _ _ (third-reads t rest) (λ h. trailing refl [] (rw h refl))

  euc_jp-reads : (b : ℕ) (rest : List ℕ) → Has (b ∷ rest) (euc_jp_front jis0208 jis0212 b rest)
  unfolding euc_jp_front euc_jp_pair euc_jp_handler
  euc_jp-reads b rest =
      by_test (is_ascii b) _ _ (λ h. one (rw h refl)) (λ h. by_test (b == 0x8E) _ _ (λ k. let is = eqb-true b 0x8E k in rw is (katakana-reads rest))
      (λ k. by_test (b == 0x8F) _ _ (λ f. let is = eqb-true b 0x8F f in rw is (second-reads rest)) (λ f. by_test (is_euc_jp_lead b) _ _
      (λ l. let some : (b == 0) ≡ false = grind (arith, nat_tests) in
      pair {s = euc_jp_state false b} (rw (h, k, f, l) refl) (euc_jp_scalars jis0208 b) (rw some refl) (λ t. rw (k, f, some) (grind arith)) rest)
      (λ l. malformed_one (rw (h, k, f, l) refl)))))

  pub euc_jp_handled : IsDecodedBy (euc_jp jis0208 jis0212) (euc_jp_handler jis0208 jis0212) euc_jp_initial
  unfolding events_of euc_jp_handler
  euc_jp_handled bytes all =
      whole (euc_jp_front jis0208 jis0212) (euc_jp_front-of jis0208 jis0212 (λ p. absurd p) (λ p. absurd p)) euc_jp-reads refl bytes
