-- The gb18030 decoder's handler gives the events of its grammar.
use Rattle.std.proofs.{Common.{◌≡◌, ℕ, List, [], ◌∷◌, Option, Some, None, refl, true, false, arith}, lemmas.Bool.Decides.nat_tests}
use Rattle.std.specs.{Prelude.{option_to_list, ◌==◌}, Char.{is_ascii, is_ascii_digit}}
use Rattle.legacy_base.specs.{declared.results.DecodeEvent.DecodeEvent, Fronts.{Front, malformed, reads_or}, Profile.is_lead, Gb18030.gb18030_scalars}
use Rattle.legacy_base.specs.{Gb18030.{gb18030_range_pointer, gb18030_fourth, gb18030_third, gb18030_second, gb18030_front}, Grammar.{gb18030, events_of}}
use Rattle.legacy_base.proofs.FrontLaws.{gb18030_front-of}
use Rattle.legacy_tables.specs.Indexes.{range}
use Rattle.legacy_standard.specs.{Queue.{Item, byte, Handled, returns, code_point_or_error}, Gb18030.Gb18030}
use Rattle.legacy_standard.specs.Gb18030.{gb18030_state, gb18030_initial, gb18030_handler}
use Rattle.legacy_standard.specs.Processing.{all_read}
use Rattle.legacy_standard.proofs.{LeadHandled.lead-some, Turns.{goes_on, gives, error_at, error_at_end}}
use Rattle.legacy_standard.proofs.HandledFronts.{Reads, whole, by_test, one, malformed_one}
use Rattle.legacy_standard.proofs.{HandledFronts.{trailing, lead_alone}, Turns.{Proceeds, IsDecodedBy}}

digit-some : (b : ℕ) → is_ascii_digit b ≡ true → (b == 0) ≡ false
digit-some b h = grind (arith, nat_tests)

module _ (index : List ℕ) (ranges : List (ℕ × ℕ)) where
  abbrev handler : Gb18030 → Item → Handled Gb18030
  handler = gb18030_handler index ranges

  abbrev Has : List ℕ → Front → Type 0
  Has = Reads handler gb18030_initial

  module _ (b : ℕ) (h : is_ascii b ≡ false) (k : (b == 0x80) ≡ false) (l : is_lead b ≡ true) where
    -- the steps for a lead and a digit, and for a lead after them
    after_two : {s place : ℕ} {rest : List ℕ} {es : List DecodeEvent} → is_ascii_digit s ≡ true →
        Proceeds handler all_read (gb18030_state b s 0) place 2 rest es → Proceeds handler all_read gb18030_initial place 0 (b ∷ s ∷ rest) es
    unfolding gb18030_handler
    after_two d at = goes_on {t = gb18030_state b 0 0} (rw (h, k, l) refl) (goes_on (rw (lead-some b l, d) refl) at)

    after_three : {s t place : ℕ} {rest : List ℕ} {es : List DecodeEvent} → is_ascii_digit s ≡ true → is_lead t ≡ true →
        Proceeds handler all_read (gb18030_state b s t) place 3 rest es → Proceeds handler all_read gb18030_initial place 0 (b ∷ s ∷ t ∷ rest) es
    unfolding gb18030_handler
    after_three {s} d m at = after_two d (goes_on (rw (digit-some s d, m) refl) at)

    -- the byte after three bytes
    fourth-reads : (s t : ℕ) (rest : List ℕ) → is_ascii_digit s ≡ true → is_lead t ≡ true → Has (b ∷ s ∷ t ∷ rest) (gb18030_fourth ranges b s t rest)
    unfolding gb18030_fourth gb18030_handler
    fourth-reads s t [] d m = record { go = λ place es after. after_three d m (error_at_end [] (rw (lead-some b l) refl) after) }
    fourth-reads s t (u ∷ rest) d m = by_test (is_ascii_digit u) _ _
        (λ e. by_code (range ranges (gb18030_range_pointer b s t u)) (grind arith))
        (λ e. record { go = λ place es after. after_three d m (error_at (s ∷ t ∷ u ∷ []) (rw (lead-some t m, e) refl) after) })
      where
        by_code : (o : Option ℕ) → handler (gb18030_state b s t) (byte u) ≡ returns (code_point_or_error o) gb18030_initial →
            Has (b ∷ s ∷ t ∷ u ∷ rest) (reads_or 4 (option_to_list o) (malformed 4))
        by_code None e = record { go = λ place es after. after_three d m (error_at [] e after) }
        by_code (Some c) e = record { go = λ place es after. after_three d m (gives (c ∷ []) e after) }

    -- the byte after two bytes
    third-reads : (s : ℕ) (rest : List ℕ) → is_ascii_digit s ≡ true → Has (b ∷ s ∷ rest) (gb18030_third ranges b s rest)
    unfolding gb18030_third gb18030_handler
    third-reads s [] d = record { go = λ place es after. after_two d (error_at_end [] (rw (lead-some b l) refl) after) }
    third-reads s (t ∷ rest) d = by_test (is_lead t) _ _ (fourth-reads s t rest d)
        (λ m. record { go = λ place es after. after_two d (error_at (s ∷ t ∷ []) (rw (digit-some s d, m) refl) after) })

    -- the byte after one byte
    second-reads : (rest : List ℕ) → Has (b ∷ rest) (gb18030_second index ranges b rest)
    unfolding gb18030_second gb18030_handler
    second-reads [] = lead_alone {s = gb18030_state b 0 0} (rw (h, k, l) refl) (rw (lead-some b l) refl)
    second-reads (t ∷ rest) = by_test (is_ascii_digit t) _ _ (third-reads t rest)
        (λ d. trailing {s = gb18030_state b 0 0} (rw (h, k, l) refl) (gb18030_scalars index b t) (rw (lead-some b l, d) (grind (arith, nat_tests))))

  gb18030-reads : (b : ℕ) (rest : List ℕ) → Has (b ∷ rest) (gb18030_front index ranges b rest)
  unfolding gb18030_front gb18030_handler
  gb18030-reads b rest =
      by_test (is_ascii b) _ _ (λ h. one (rw h refl)) (λ h. by_test (b == 0x80) _ _ (λ k. one (rw (h, k) refl))
      (λ k. by_test (is_lead b) _ _ (λ l. second-reads b h k l rest) (λ l. malformed_one (rw (h, k, l) refl))))

  pub gb18030_handled : IsDecodedBy (gb18030 index ranges) (gb18030_handler index ranges) gb18030_initial
  unfolding events_of gb18030_handler
  gb18030_handled bytes all =
      whole (gb18030_front index ranges) (gb18030_front-of index ranges (λ p. absurd p) (λ p c e q. absurd q)) gb18030-reads refl bytes
