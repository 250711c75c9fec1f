-- The handlers of the encoders without a state give the events of their definitions.
use Rattle.std.proofs.{lemmas.Bool.Decides.nat_tests, Common.{◌≡◌, ◌≢◌, ◌≤◌, length, inl, inr, ℕ, List, [], ◌∷◌, Option, Some, None, refl}}
use Rattle.std.proofs.{Common.{true, false, arith}, lemmas.List.Elements.{All-head, All-tail}, lemmas.List.Quantifiers.position-Some}
use Rattle.std.proofs.{lemmas.List.Sums.fails_before_first, lemmas.Bool.{cases_eq, eqb-true}}
use Rattle.std.specs.{Prelude.{is_some, ◌==◌, position, slice_index}, Char.IsScalar, List.position_or_len}
use Rattle.legacy_base.specs.{EncodeEvents.{plain_events}, SingleByte.single_byte_code, UserDefined.user_defined_code, EucKr.euc_kr_code}
use Rattle.legacy_base.specs.{Big5.big5_code, ShiftJis.shift_jis_code, EucJp.euc_jp_code, Gb18030.{gb18030_code, gbk_code}}
use Rattle.legacy_tables.specs.{Unicode.AreScalars, Pointers.{every_pointer, index_pointer_of, minus_as_hyphen, shift_jis_pointer_of}}
use Rattle.legacy_tables.proofs.Pointers.{first-is, first-none}
use Rattle.legacy_standard.specs.TextQueue.{TextOutcome, by_scalar, Encodes}
use Rattle.legacy_standard.specs.{SingleByteEncoder.single_byte_encodes, UserDefinedEncoder.user_defined_encodes, EucKrEncoder.euc_kr_encodes}
use Rattle.legacy_standard.specs.{Big5Encoder.big5_encodes, ShiftJisEncoder.shift_jis_encodes, EucJpEncoder.euc_jp_encodes}
use Rattle.legacy_standard.specs.{Gb18030Encoder.gb18030_encodes, EncoderLaw.{HasRows, AreAcceptedRanges, HasRangePointers}}
use Rattle.legacy_standard.proofs.{RangePointers.ranged_pointer, TextTurns.{IsEncodedBy, WritesText, by_code, steady, ends, gives}}
use Rattle.legacy_base.specs.Encoders as codecs

module _ (outcome : ℕ → TextOutcome) (code : ℕ → Option (List ℕ)) (is : (c : ℕ) → IsScalar c → outcome c ≡ by_code c (code c)) where
  writes : (text : List ℕ) → AreScalars text → WritesText (by_scalar outcome) tt text (plain_events code text)
  unfolding plain_events
  writes [] all = ends refl
  writes (c ∷ text) all =
      gives c (code c) [] (rw (is c (All-head IsScalar c text all)) refl) (writes text (All-tail IsScalar c text all))

  plain : (text : List ℕ) → AreScalars text → Encodes (by_scalar outcome) tt text (plain_events code text)
  plain text all = steady (writes text all)

-- ---- single-byte

-- "index pointer" is the first position of a scalar
pointer-position : (table : List ℕ) (c : ℕ) → c ≢ 0 → index_pointer_of table c ≡ position (λ entry. entry == c) table
pointer-position table c some = by_place (position (λ entry. entry == c) table) refl
  where
    by_place : (o : Option ℕ) → position (λ entry. entry == c) table ≡ o → index_pointer_of table c ≡ o
    by_place None e =
        let past : length table ≤ position_or_len (λ entry. entry == c) table = grind (arith, nat_tests) in
        first-none every_pointer table c (λ k h. fails_before_first (λ entry. entry == c) table k 0 (omega arith))
    by_place (Some p) e =
        let at = position-Some (λ entry. entry == c) table p 0 e in
        first-is every_pointer table c some p at.0 refl (eqb-true (slice_index table p) c at.1) at.2

pub single_byte_encoded : (table : List ℕ) → IsEncodedBy (codecs.single_byte table) (by_scalar (single_byte_encodes table)) tt
unfolding single_byte_encodes single_byte_code
single_byte_encoded table =
    plain (single_byte_encodes table) (single_byte_code table)
    (λ c s. elim (cases_eq c 0) [ inl is ↦ rw is refl | inr some ↦ rw (pointer-position table c some) (grind arith) ])

-- ---- x-user-defined

pub user_defined_encoded : IsEncodedBy codecs.user_defined (by_scalar user_defined_encodes) tt
unfolding user_defined_encodes user_defined_code
user_defined_encoded = plain user_defined_encodes user_defined_code (λ c s. grind arith)

-- ---- EUC-KR

pub euc_kr_encoded : (index : List ℕ) → IsEncodedBy (codecs.euc_kr index) (by_scalar (euc_kr_encodes index)) tt
unfolding euc_kr_encodes euc_kr_code
euc_kr_encoded index = plain (euc_kr_encodes index) (euc_kr_code index) (λ c s. grind arith)

-- ---- Big5

pub big5_encoded : (index : List ℕ) → IsEncodedBy (codecs.big5 index) (by_scalar (big5_encodes index)) tt
unfolding big5_encodes big5_code
big5_encoded index = plain (big5_encodes index) (big5_code index) (λ c s. grind arith)

-- ---- Shift_JIS

pub shift_jis_encoded : (jis0208 : List ℕ) → is_some (shift_jis_pointer_of jis0208 0xFF0D) ≡ true →
    IsEncodedBy (codecs.shift_jis jis0208) (by_scalar (shift_jis_encodes jis0208)) tt
unfolding shift_jis_encodes shift_jis_code
shift_jis_encoded jis0208 hyphen = plain (shift_jis_encodes jis0208) (shift_jis_code jis0208) (λ c s. grind arith)

-- ---- EUC-JP

pub euc_jp_encoded : (jis0208 jis0212 : List ℕ) → HasRows jis0208 → IsEncodedBy (codecs.euc_jp jis0208 jis0212) (by_scalar (euc_jp_encodes jis0208)) tt
unfolding euc_jp_encodes euc_jp_code
euc_jp_encoded jis0208 jis0212 rows =
    plain (euc_jp_encodes jis0208) (euc_jp_code jis0208) (λ c s. rw (rows.first (minus_as_hyphen c)) (grind (arith, rows.hyphen)))

-- ---- gb18030 and GBK

module _ (index : List ℕ) (ranges : List (ℕ × ℕ)) (pua : List (ℕ × ℕ × ℕ)) where
  pub gb18030_encoded : AreAcceptedRanges ranges → HasRangePointers index ranges pua →
      IsEncodedBy (codecs.gb18030 index ranges pua) (by_scalar (gb18030_encodes false index ranges pua)) tt
  unfolding gb18030_encodes gb18030_code
  gb18030_encoded accepted ranged =
      plain (gb18030_encodes false index ranges pua) (gb18030_code index ranges pua) (λ c s. grind (arith, nat_tests, ranged_pointer))

  pub gbk_encoded : IsEncodedBy (codecs.gbk index ranges pua) (by_scalar (gb18030_encodes true index ranges pua)) tt
  unfolding gb18030_encodes gbk_code
  gbk_encoded = plain (gb18030_encodes true index ranges pua) (gbk_code index pua) (λ c s. grind arith)
