-- The codes of Big5, EUC-KR, Shift_JIS, EUC-JP, the single-byte codecs and x-user-defined decode to their scalars. The
-- codes of folds decode to other scalars (`read_as`).
use Rattle.std.proofs.Common.{◌≡◌, ◌≢◌, ℕ, ◌+◌, ◌*◌, ◌/◌, ◌%◌, ◌<◌, ◌≤◌, List, [], ◌∷◌, length, Bool, true, false, cond, ◌||◌, ◌==◌, nat_lt, Option, Some}
use Rattle.std.proofs.{Common.{None, option_map, option_to_list, position, refl, sym, arith, if◌then◌else◌}, lemmas.Bool.{cond_both, ne_eqb, eqb-true}}
use Rattle.std.proofs.{lemmas.Bool.true≢false, lemmas.Bool.Decides.nat_tests, lemmas.List.Quantifiers.position-Some, Math.Nat.div-add-mod, lemmas.Nat.mod_below}
use Rattle.std.specs.{Int.is_in_range, Char.is_ascii}
use Rattle.legacy_base.specs.{Fronts.{Front, reads}, Profile.is_lead, SingleByte.{single_byte_front, single_byte_code}, UserDefined.user_defined_front}
use Rattle.legacy_base.specs.{UserDefined.user_defined_code, Big5.{big5_pair, big5_front, big5_bytes, big5_code}, LeadForms.{lead_front, lead_pair}}
use Rattle.legacy_base.specs.{EucKr.{euc_kr_pointer, euc_kr_bytes, euc_kr_code}, ShiftJis.{is_shift_jis_lead, shift_jis_lead_part, shift_jis_pointer}}
use Rattle.legacy_base.specs.{ShiftJis.{shift_jis_scalars, shift_jis_pair, shift_jis_front, shift_jis_bytes, shift_jis_code}, EucJp.euc_jp_katakana}
use Rattle.legacy_base.specs.{EucJp.{euc_jp_pair, euc_jp_front, euc_jp_bytes, euc_jp_code}, RoundTrips.{is_japanese_fold, japanese_scalar}}
use Rattle.legacy_tables.specs.{Indexes.idx, Pointers.{every_pointer, is_big5_pointer, big5_pointer_of, index_pointer_of, minus_as_hyphen}}
use Rattle.legacy_tables.specs.Pointers.{is_shift_jis_pointer, is_jis0208_pointer}
use Rattle.legacy_tables.proofs.Pointers.{first-taken, big5-taken}
use Rattle.legacy_base.proofs.{PointersBack.{LeadsBack, leads_back}, Trips.GivesScalar}

-- a code made from an optional pointer has a pointer
pub mapped : (f : ℕ → List ℕ) (o : Option ℕ) (bytes : List ℕ) → option_map f o ≡ Some bytes → (p : ℕ) × (o ≡ Some p) × (bytes ≡ f p)
mapped f None bytes h = cc
mapped f (Some p) bytes h = (p, refl, (let same : f p ≡ bytes = cc in sym same))

-- one byte that is a front by itself
pub one_byte : (front : ℕ → List ℕ → Front) (b c : ℕ) (bytes : List ℕ) → bytes ≡ b ∷ [] → ((more : List ℕ) → front b more ≡ reads 1 (c ∷ [])) →
    GivesScalar front bytes c
one_byte front b c bytes is h = rw is (record { some = omega arith; gives = h })

-- two bytes that are a front by themselves
pub two_bytes : (front : ℕ → List ℕ → Front) (a b c : ℕ) (bytes : List ℕ) → bytes ≡ a ∷ b ∷ [] → ((more : List ℕ) → front a (b ∷ more) ≡ reads 2 (c ∷ [])) →
    GivesScalar front bytes c
two_bytes front a b c bytes is h = rw is (record { some = omega arith; gives = h })

-- a code that is the byte of an ASCII scalar, or is made of a pointer
ascii_or_mapped : (front : ℕ → List ℕ → Front) (c : ℕ) (bytes : List ℕ) (made : ℕ → List ℕ) (pointer : Option ℕ)
    → (is_ascii c ≡ true → (more : List ℕ) → front c more ≡ reads 1 (c ∷ []))
    → (is_ascii c ≡ false → (p : ℕ) → pointer ≡ Some p → bytes ≡ made p → GivesScalar front bytes c)
    → cond (is_ascii c) (Some (c ∷ [])) (option_map made pointer) ≡ Some bytes → GivesScalar front bytes c
ascii_or_mapped front c bytes made pointer one mapping h = grind arith

-- ---- Big5

big5_pair_back : (index : List ℕ) (p c : ℕ) (more : List ℕ) → length index ≤ 19782 → LeadsBack is_big5_pointer index c p
    → big5_front index (p / 157 + 0x81) ((p % 157 + (if nat_lt (p % 157) 0x3F then 0x40 else 0x62)) ∷ more) ≡ reads 2 (c ∷ [])
unfolding big5_front big5_pair
big5_pair_back index p c more short back = grind arith

pub big5-decodes : (index : List ℕ) (c : ℕ) (bytes : List ℕ) → length index ≤ 19782 → big5_code index c ≡ Some bytes → GivesScalar (big5_front index) bytes c
unfolding big5_code big5_front
big5-decodes index c bytes short =
    ascii_or_mapped (big5_front index) c bytes big5_bytes (big5_pointer_of index c) (λ e more. rw e refl)
    (λ e p has is. two_bytes (big5_front index) _ _ c bytes is (λ more. big5_pair_back index p c more short
    (leads_back is_big5_pointer index c _ (big5-taken index c) p has)))

-- ---- EUC-KR

euc_kr_pair_back : (index : List ℕ) (p c : ℕ) (more : List ℕ) → length index ≤ 23940 → LeadsBack every_pointer index c p
    → lead_front is_lead euc_kr_pointer index (p / 190 + 0x81) ((p % 190 + 0x41) ∷ more) ≡ reads 2 (c ∷ [])
unfolding lead_front lead_pair
euc_kr_pair_back index p c more short back = grind arith

pub euc_kr-decodes : (index : List ℕ) (c : ℕ) (bytes : List ℕ) → length index ≤ 23940
    → euc_kr_code index c ≡ Some bytes → GivesScalar (lead_front is_lead euc_kr_pointer index) bytes c
unfolding euc_kr_code lead_front
euc_kr-decodes index c bytes short =
    ascii_or_mapped (lead_front is_lead euc_kr_pointer index) c bytes euc_kr_bytes (index_pointer_of index c) (λ e more. rw e refl)
    (λ e p has is. two_bytes (lead_front is_lead euc_kr_pointer index) _ _ c bytes is (λ more. euc_kr_pair_back index p c more short
    (leads_back every_pointer index c _ (first-taken every_pointer index c) p has)))

-- ---- Shift_JIS

-- the lead of a row is a lead, and its number is the row
shift_jis_lead_back : (q : ℕ) → q < 60 → (t : Bool) → nat_lt q 0x1F ≡ t → ((is_ascii (q + cond t 0x81 0xC1) || (q + cond t 0x81 0xC1) == 0x80) ≡ false)
    × (is_in_range 0xA1 0xDF (q + cond t 0x81 0xC1) ≡ false)
    × (is_shift_jis_lead (q + cond t 0x81 0xC1) ≡ true)
    × (shift_jis_lead_part (q + cond t 0x81 0xC1) ≡ q)
shift_jis_lead_back q h t e = grind (arith, nat_tests)

shift_jis_back : (lead q r : ℕ) → r < 188 → shift_jis_lead_part lead ≡ q → (t : Bool) → nat_lt r 0x3F ≡ t
    → shift_jis_pointer lead (r + cond t 0x40 0x41) ≡ Some (188 * q + r)
shift_jis_back lead q r h part t e = rw part (grind (arith, nat_tests))

-- the pointers that decode to private use have empty entries
pub record PrivateUseIsEmpty (jis0208 : List ℕ) : Type 0 where
  pub empty : (p : ℕ) → is_in_range 8836 10715 p ≡ true → idx jis0208 p ≡ None

shift_jis_scalar : (jis0208 : List ℕ) (p c : ℕ) → PrivateUseIsEmpty jis0208 → idx jis0208 p ≡ Some c → shift_jis_scalars jis0208 p ≡ c ∷ []
shift_jis_scalar jis0208 p c empty has =
    cond_both (is_in_range 8836 10715 p) _ (option_to_list (idx jis0208 p)) (λ l. l ≡ c ∷ []) (λ e. let none = empty.empty p e in cc) (λ e. rw has refl)

shift_jis_pair_back : (jis0208 : List ℕ) (p c : ℕ) (more : List ℕ) → length jis0208 ≤ 11280 → PrivateUseIsEmpty jis0208 →
    LeadsBack is_shift_jis_pointer jis0208 c p
    → shift_jis_front jis0208 (p / 188 + (if nat_lt (p / 188) 0x1F then 0x81 else 0xC1)) ((p % 188 + (if nat_lt (p % 188) 0x3F then 0x40 else 0x41)) ∷ more)
    ≡ reads 2 (c ∷ [])
unfolding shift_jis_front shift_jis_pair
shift_jis_pair_back jis0208 p c more short empty back =
    grind (arith, nat_tests, div-add-mod, mod_below, shift_jis_lead_back, nat_lt, shift_jis_back, shift_jis_scalar)

-- a code of a Japanese codec: of a scalar that is its own byte, of the yen sign, the overline or half-width katakana, or
-- made of a pointer
japanese-decodes : (front : ℕ → List ℕ → Front) (c : ℕ) (bytes katakana : List ℕ) (t : Bool) (made : ℕ → List ℕ) (pointer : Option ℕ)
    → ((more : List ℕ) → front 0x5C more ≡ reads 1 (0x5C ∷ [])) → ((more : List ℕ) → front 0x7E more ≡ reads 1 (0x7E ∷ []))
    → (t ≡ true → (is_japanese_fold c ≡ false) × ((more : List ℕ) → front c more ≡ reads 1 (c ∷ [])))
    → (is_in_range 0xFF61 0xFF9F c ≡ true → GivesScalar front katakana c)
    → ((p : ℕ) → pointer ≡ Some p → GivesScalar front (made p) (minus_as_hyphen c))
    → cond t (Some (c ∷ [])) (cond (c == 0xA5) (Some (0x5C ∷ [])) (cond (c == 0x203E) (Some (0x7E ∷ []))
    (cond (is_in_range 0xFF61 0xFF9F c) (Some katakana) (option_map made pointer)))) ≡ Some bytes
    → GivesScalar front bytes (japanese_scalar c)
japanese-decodes front c bytes katakana t made pointer yen overline own half mapping h = grind (arith, nat_tests, one_byte)

pub shift_jis-decodes : (jis0208 : List ℕ) (c : ℕ) (bytes : List ℕ) → length jis0208 ≤ 11280 → PrivateUseIsEmpty jis0208
    → shift_jis_code jis0208 c ≡ Some bytes → GivesScalar (shift_jis_front jis0208) bytes (japanese_scalar c)
unfolding shift_jis_code shift_jis_front
shift_jis-decodes jis0208 c bytes short empty =
    japanese-decodes (shift_jis_front jis0208) c bytes _ _ shift_jis_bytes _ (λ more. refl) (λ more. refl)
    (λ t. (grind (arith, nat_tests), λ more. rw t refl))
    (λ k. one_byte (shift_jis_front jis0208) _ c _ refl (λ more. grind (arith, nat_tests)))
    (λ p has. two_bytes (shift_jis_front jis0208) _ _ _ _ refl (λ more. shift_jis_pair_back jis0208 p _ more short empty
    (leads_back is_shift_jis_pointer jis0208 _ _ (first-taken is_shift_jis_pointer jis0208 _) p has)))

-- ---- EUC-JP

euc_jp_pair_back : (jis0208 jis0212 : List ℕ) (p c : ℕ) (more : List ℕ) → LeadsBack is_jis0208_pointer jis0208 c p
    → euc_jp_front jis0208 jis0212 (p / 94 + 0xA1) ((p % 94 + 0xA1) ∷ more) ≡ reads 2 (c ∷ [])
unfolding euc_jp_front euc_jp_pair
euc_jp_pair_back jis0208 jis0212 p c more back = grind arith

pub euc_jp-decodes : (jis0208 jis0212 : List ℕ) (c : ℕ) (bytes : List ℕ)
    → euc_jp_code jis0208 c ≡ Some bytes → GivesScalar (euc_jp_front jis0208 jis0212) bytes (japanese_scalar c)
unfolding euc_jp_code euc_jp_front euc_jp_katakana
euc_jp-decodes jis0208 jis0212 c bytes =
    japanese-decodes (euc_jp_front jis0208 jis0212) c bytes _ _ euc_jp_bytes _ (λ more. refl) (λ more. refl)
    (λ t. (grind (arith, nat_tests), λ more. rw t refl))
    (λ k. two_bytes (euc_jp_front jis0208 jis0212) _ _ c _ refl (λ more. grind (arith, nat_tests)))
    (λ p has. two_bytes (euc_jp_front jis0208 jis0212) _ _ _ _ refl (λ more. euc_jp_pair_back jis0208 jis0212 p _ more
    (leads_back is_jis0208_pointer jis0208 _ _ (first-taken is_jis0208_pointer jis0208 _) p has)))

-- ---- single-byte codecs and x-user-defined

-- the position found for a scalar has that scalar as its entry
place_back : (table : List ℕ) (c place : ℕ) → c ≢ 0 → position (λ entry. entry == c) table ≡ Some place → idx table place ≡ Some c
place_back table c place n e = grind (arith, nat_tests, eqb-true, position-Some, ne_eqb)

pub single_byte-decodes : (table : List ℕ) (c : ℕ) (bytes : List ℕ) → single_byte_code table c ≡ Some bytes → GivesScalar (single_byte_front table) bytes c
unfolding single_byte_code single_byte_front
single_byte-decodes table c bytes h = grind (arith, nat_tests, ascii_or_mapped, true≢false, place_back, one_byte)

pub user_defined-decodes : (c : ℕ) (bytes : List ℕ) → user_defined_code c ≡ Some bytes → GivesScalar user_defined_front bytes c
unfolding user_defined_code user_defined_front
user_defined-decodes c bytes h = grind arith
