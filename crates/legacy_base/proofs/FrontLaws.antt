-- Each front of each codec has one to four bytes of its list, so every list has events. A front gives one or two
-- scalars, or is malformed.
use Rattle.std.proofs.Common.{◌≡◌, ℕ, suc, ◌+◌, ◌-◌, ◌*◌, ◌≤◌, ◌<◌, List, [], ◌∷◌, Bool, true, cond, length, ◌||◌, ◌==◌, Option, Some, None}
use Rattle.std.proofs.{Common.{option_to_list, refl, arith}, lemmas.Bool.cond_both, lemmas.Bool.Decides.nat_tests, lemmas.List.Elements.{All-nil, All-cons}}
use Rattle.std.specs.{Option.option_map_or, Int.is_in_range, Char.{IsScalar, is_ascii, is_ascii_digit}}
use Rattle.legacy_tables.specs.{Indexes.{idx, range}, Unicode.{IsByte, AreScalars, is_katakana_byte}}
use Rattle.legacy_base.specs.{Fronts.{Front, reads, malformed, front_length, reads_or, trail_rule, trail_front}, Laws.IsFrontOf, Profile.is_lead}
use Rattle.legacy_base.specs.{SingleByte.single_byte_front, UserDefined.user_defined_front, Big5.{big5_pointer, big5_scalars, big5_pair, big5_front}}
use Rattle.legacy_base.specs.{LeadForms.{lead_pair, lead_front}, ShiftJis.{is_shift_jis_lead, shift_jis_pointer, shift_jis_scalars, shift_jis_pair}}
use Rattle.legacy_base.specs.{ShiftJis.shift_jis_front, EucJp.{is_euc_jp_lead, euc_jp_scalars, euc_jp_katakana, euc_jp_third, euc_jp_second, euc_jp_pair}}
use Rattle.legacy_base.specs.{EucJp.euc_jp_front, Gb18030.{gb18030_scalars, gb18030_fourth, gb18030_third, gb18030_second, gb18030_front}}
use Rattle.legacy_base.specs.Iso2022Jp.{iso_2022_jp_front}
use Rattle.legacy_base.specs.declared.modes.DecoderMode.{DecoderMode, TheVariants.{Ascii, Roman, Katakana, TwoByte}}
use Rattle.legacy_tables.proofs.Accepted.{idx-all}

-- ---- the scalars of a front

-- the scalars of a front: at most two, and Unicode scalar values if P holds
abbrev MayGive : Type 0 → List ℕ → Type 0
MayGive P scalars = (length scalars ≤ 2) × (P → AreScalars scalars)

module _ {P : Type 0} where
  give-none : MayGive P []
  give-none = (omega arith, λ p. All-nil IsScalar)

  pub give-one : (c : ℕ) → (P → IsScalar c) → MayGive P (c ∷ [])
  give-one c h = (omega arith, λ p. All-cons IsScalar c [] (h p) (All-nil IsScalar))

  give-two : (c d : ℕ) → IsScalar c → IsScalar d → MayGive P (c ∷ d ∷ [])
  give-two c d h k = (omega arith, λ p. All-cons IsScalar c (d ∷ []) h (All-cons IsScalar d [] k (All-nil IsScalar)))

  give-option : (o : Option ℕ) → ((c : ℕ) → o ≡ Some c → P → IsScalar c) → MayGive P (option_to_list o)
  give-option None h = give-none
  give-option (Some c) h = give-one c (h c refl)

  give-idx : (index : List ℕ) → (P → AreScalars index) → (p : ℕ) → MayGive P (option_to_list (idx index p))
  give-idx index all p = give-option (idx index p) (λ c e q. idx-all IsScalar index (all q) p c e)

  give-cond : (t : Bool) (xs ys : List ℕ) → (t ≡ true → MayGive P xs) → MayGive P ys → MayGive P (cond t xs ys)
  give-cond t xs ys h k = cond_both t xs ys (MayGive P) h (λ _. k)

  give-pointer : (scalars : ℕ → List ℕ) (o : Option ℕ) → ((p : ℕ) → MayGive P (scalars p)) → MayGive P (option_map_or scalars o [])
  give-pointer scalars None h = give-none
  give-pointer scalars (Some p) h = h p

  -- ---- fronts by their shape

  pub front_of-cond : (size : ℕ) (t : Bool) (f g : Front) → (t ≡ true → IsFrontOf size P f) → IsFrontOf size P g → IsFrontOf size P (cond t f g)
  front_of-cond size t f g h k = cond_both t f g (IsFrontOf size P) h (λ _. k)

  pub front_of-malformed : (size n : ℕ) → 0 < n → n ≤ size → n ≤ 4 → IsFrontOf size P (malformed n)
  front_of-malformed size n some within short = record { some = some; within = within; short = short; few = tt; scalars = λ p. All-nil IsScalar }

  pub front_of-reads_or : (size n : ℕ) (scalars : List ℕ) (other : Front) → 0 < n → n ≤ size → n ≤ 4 → MayGive P scalars → IsFrontOf size P other →
      IsFrontOf size P (reads_or n scalars other)
  front_of-reads_or size n scalars other h k m e f = grind arith

  front_of-trail_rule : (size n t : ℕ) → 0 < n → n < size → n < 4 → IsFrontOf size P (trail_rule n t)
  front_of-trail_rule size n t some within short = grind arith

  front_of-trail_front : (size n : ℕ) (scalars : ℕ → List ℕ) (rest : List ℕ) → 0 < n → n < 4 → n + length rest ≡ size → ((t : ℕ) → MayGive P (scalars t)) →
      IsFrontOf size P (trail_front n scalars rest)
  front_of-trail_front size n scalars rest h k m e = grind arith

  pub malformed_one : (rest : List ℕ) → IsFrontOf (suc (length rest)) P (malformed 1)
  malformed_one rest = front_of-malformed (suc (length rest)) 1 (omega arith) (omega arith) (omega arith)

  -- a front of one byte
  pub byte : (rest : List ℕ) (c : ℕ) → (P → IsScalar c) → IsFrontOf (suc (length rest)) P (reads 1 (c ∷ []))
  byte rest c h = front_of-reads_or _ 1 (c ∷ []) (malformed 1) (omega arith) (omega arith) (omega arith) (give-one c h) (malformed_one rest)

  -- an ASCII byte is its own scalar
  ascii_or : (b : ℕ) (rest : List ℕ) (other : Front) → IsFrontOf (suc (length rest)) P other →
      IsFrontOf (suc (length rest)) P (cond (is_ascii b) (reads 1 (b ∷ [])) other)
  ascii_or b rest other h = front_of-cond _ (is_ascii b) _ _ (λ e. byte rest b (λ _. grind (arith, nat_tests))) h

  -- a lead, with or without a trail
  pair : (scalars : ℕ → List ℕ) (rest : List ℕ) → ((t : ℕ) → MayGive P (scalars t)) → IsFrontOf (suc (length rest)) P (trail_front 1 scalars rest)
  pair scalars rest given = front_of-trail_front _ 1 scalars rest (omega arith) (omega arith) (omega arith) given

  -- ---- the codecs

  pub user_defined_front-of : (b : ℕ) → (P → IsByte b) → (rest : List ℕ) → IsFrontOf (suc (length rest)) P (user_defined_front b rest)
  unfolding user_defined_front
  user_defined_front-of b is rest = ascii_or b rest _ (byte rest _ (λ p. let at = is p in grind (arith, nat_tests)))

module _ {P : Type 0} (index : List ℕ) (checked : P → AreScalars index) where
  pub single_byte_front-of : (b : ℕ) (rest : List ℕ) → IsFrontOf (suc (length rest)) P (single_byte_front index b rest)
  unfolding single_byte_front
  single_byte_front-of b rest =
      ascii_or b rest _ (front_of-reads_or _ 1 _ _ (omega arith) (omega arith) (omega arith) (give-idx index checked (b - 0x80)) (malformed_one rest))

  big5-gives : (p : ℕ) → MayGive P (big5_scalars index p)
  big5-gives p =
      give-cond (p == 1133) _ _ (λ _. give-two 0xCA 0x304 refl refl) (give-cond (p == 1135) _ _ (λ _. give-two 0xCA 0x30C refl refl)
      (give-cond (p == 1164) _ _ (λ _. give-two 0xEA 0x304 refl refl)
      (give-cond (p == 1166) _ _ (λ _. give-two 0xEA 0x30C refl refl) (give-idx index checked p))))

  pub big5_front-of : (b : ℕ) (rest : List ℕ) → IsFrontOf (suc (length rest)) P (big5_front index b rest)
  unfolding big5_front big5_pair
  big5_front-of b rest =
      ascii_or b rest _ (front_of-cond _ (is_lead b) _ _ (λ _. pair _ rest (λ t. give-pointer (big5_scalars index) (big5_pointer b t) big5-gives))
      (malformed_one rest))

  pub lead_front-of : (is_lead_byte : ℕ → Bool) (pointers : ℕ → ℕ → Option ℕ) (b : ℕ) (rest : List ℕ) →
      IsFrontOf (suc (length rest)) P (lead_front is_lead_byte pointers index b rest)
  unfolding lead_front lead_pair
  lead_front-of is_lead_byte pointers b rest =
      ascii_or b rest _ (front_of-cond _ (is_lead_byte b) _ _ (λ _. pair _ rest (λ t. give-pointer _ (pointers b t) (give-idx index checked)))
      (malformed_one rest))

  shift_jis-gives : (p : ℕ) → MayGive P (shift_jis_scalars index p)
  shift_jis-gives p = give-cond (is_in_range 8836 10715 p) _ _ (λ e. give-one _ (λ _. grind (arith, nat_tests))) (give-idx index checked p)

  pub shift_jis_front-of : (b : ℕ) (rest : List ℕ) → IsFrontOf (suc (length rest)) P (shift_jis_front index b rest)
  unfolding shift_jis_front shift_jis_pair
  shift_jis_front-of b rest =
      front_of-cond _ (is_ascii b || b == 0x80) _ _ (λ e. byte rest b (λ _. grind (arith, nat_tests)))
      (front_of-cond _ (is_katakana_byte b) _ _ (λ e. byte rest _ (λ _. grind (arith, nat_tests)))
      (front_of-cond _ (is_shift_jis_lead b) _ _ (λ _. pair _ rest (λ t. give-pointer (shift_jis_scalars index) (shift_jis_pointer b t) shift_jis-gives))
      (malformed_one rest)))

  euc_jp-gives : (lead t : ℕ) → MayGive P (euc_jp_scalars index lead t)
  euc_jp-gives lead t = give-cond (is_euc_jp_lead t) _ _ (λ _. give-idx index checked _) give-none

  euc_jp_second-of : (rest : List ℕ) → IsFrontOf (suc (length rest)) P (euc_jp_second index rest)
  unfolding euc_jp_second euc_jp_third
  euc_jp_second-of rest = grind (arith, nat_tests, malformed_one, front_of-cond, front_of-trail_front, euc_jp-gives, front_of-trail_rule)

module _ {P : Type 0} (jis0208 jis0212 : List ℕ) (checked : P → AreScalars jis0208) (checked_too : P → AreScalars jis0212) where
  euc_jp_katakana-of : (rest : List ℕ) → IsFrontOf (suc (length rest)) P (euc_jp_katakana rest)
  unfolding euc_jp_katakana
  euc_jp_katakana-of rest = grind arith

  pub euc_jp_front-of : (b : ℕ) (rest : List ℕ) → IsFrontOf (suc (length rest)) P (euc_jp_front jis0208 jis0212 b rest)
  unfolding euc_jp_front euc_jp_pair
  euc_jp_front-of b rest =
      let second = euc_jp_second-of jis0212 checked_too rest in
      let two = pair _ rest (euc_jp-gives jis0208 checked b) in
      grind (arith, nat_tests, euc_jp_katakana-of rest, second, two)

module _ {P : Type 0} (index : List ℕ) (ranges : List (ℕ × ℕ)) (checked : P → AreScalars index)
    (ranged : (p c : ℕ) → range ranges p ≡ Some c → P → IsScalar c) where
  gb18030_third-of : (first second : ℕ) (rest : List ℕ) → IsFrontOf (suc (suc (length rest))) P (gb18030_third ranges first second rest)
  unfolding gb18030_third gb18030_fourth
  gb18030_third-of first second rest = grind arith

  gb18030-gives : (first second : ℕ) → MayGive P (gb18030_scalars index first second)
  gb18030-gives first second =
      give-cond (is_in_range 0x40 0x7E second) _ _ (λ _. give-idx index checked _)
      (give-cond (is_in_range 0x80 0xFE second) _ _ (λ _. give-idx index checked _) give-none)

  gb18030_second-of : (first : ℕ) (rest : List ℕ) → IsFrontOf (suc (length rest)) P (gb18030_second index ranges first rest)
  unfolding gb18030_second
  gb18030_second-of first [] = malformed_one []
  gb18030_second-of first (second ∷ rest) =
      front_of-cond _ (is_ascii_digit second) _ _ (λ _. gb18030_third-of first second rest) (pair _ (second ∷ rest) (gb18030-gives first))

  pub gb18030_front-of : (b : ℕ) (rest : List ℕ) → IsFrontOf (suc (length rest)) P (gb18030_front index ranges b rest)
  unfolding gb18030_front
  gb18030_front-of b rest = grind (arith, nat_tests, gb18030_second-of b rest)

-- ---- ISO-2022-JP

module _ {P : Type 0} (jis0208 : List ℕ) (checked : P → AreScalars jis0208) where
  pub iso_2022_jp_front-of : (mode : DecoderMode) (b : ℕ) (rest : List ℕ) → IsFrontOf (suc (length rest)) P (iso_2022_jp_front jis0208 mode b rest)
  unfolding iso_2022_jp_front
  iso_2022_jp_front-of Ascii b rest = grind (arith, nat_tests, byte, malformed_one)
  iso_2022_jp_front-of Roman b rest = grind (arith, nat_tests, byte, malformed_one)
  iso_2022_jp_front-of Katakana b rest = grind (arith, nat_tests, byte, malformed_one)
  iso_2022_jp_front-of TwoByte b [] = malformed_one []
  iso_2022_jp_front-of TwoByte b (t ∷ rest) = grind (arith, nat_tests, give-idx jis0208 checked ((b - 0x21) * 94 + (t - 0x21)))

pub iso_2022_jp_front-short : (jis0208 : List ℕ) (mode : DecoderMode) (b : ℕ) (rest : List ℕ) → front_length (iso_2022_jp_front jis0208 mode b rest) ≤ 2
unfolding iso_2022_jp_front
iso_2022_jp_front-short jis0208 mode b rest = grind arith
