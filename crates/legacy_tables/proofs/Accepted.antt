-- Facts about indexes and single-byte tables that passed their check.
use Rattle.std.proofs.Common.{◌≡◌, ◌≢◌, ◌⊎◌, ℕ, zero, suc, ◌+◌, ◌-◌, ◌≤◌, ◌<◌, List, [], ◌∷◌, length, get_or, add-one, refl, arith, Some}
use Rattle.std.proofs.{Common.{None, Option, true, false, Bool, ◌&&◌, not, cond, nat_le, subst, ◌==◌}, lemmas.Bool.{and_parts}}
use Rattle.std.proofs.{lemmas.Bool.Decides.nat_tests, lemmas.List.get_or_default}
use Rattle.std.proofs.lemmas.List.Sorted.{IsNonDecreasingBy-from_all_adjacent}
use Rattle.std.specs.{List.{All, AllAdjacentBelow}, Char.IsScalar, Option.option_or, Int.is_in_range, List.Sorted.IsNonDecreasingBy}
use borrow.Author.Tests.{ltb-false, ltb-true, leb-true, leb-false, le-leb, lt-leb}
use Rattle.legacy_tables.specs.{declared.tables.IndexName.IndexName, declared.tables.TableError.TableError, declared.tables.TableError.TheVariants.TooLong}
use Rattle.legacy_tables.specs.declared.tables.TableError.TheVariants.{BadEntry, RangeOrder, RangeValue}
use Rattle.legacy_tables.specs.{declared.tables.packed.PackedPart.PackedPart, Indexes.{FlatIndexes, entry_scalar, idx, range, last_range_scalar}}
use Rattle.legacy_tables.specs.{Walks.order_index, Unicode.AreScalars, Tables.{index_list, is_narrow_index}, TableChecks.{is_entry, must_be_empty, entry_fault}}
use Rattle.legacy_tables.specs.TableChecks.{entries_fault, index_fault, range_order_fault, AreAccepted, next_pointer, has_range_scalars}
use Rattle.legacy_tables.specs.TableChecks.{follows_range, range_value_fault, rows_fault, table_fault}
use Rattle.legacy_tables.proofs.FirstPlaces.{taken, each-fine}
use Rattle.legacy_tables.specs.declared.tables.IndexName.TheVariants as names

-- ---- no fault of two parts, and of a test

pub or_none : {A : Type 0} (a b : Option A) → option_or a b ≡ None → (a ≡ None) × (b ≡ None)
or_none a b e = grind arith

pub untaken : {A : Type 0} (t : Bool) (fault : A) (a : Option A) → cond t (Some fault) a ≡ None → (t ≡ false) × (a ≡ None)
untaken t fault a e = grind arith

-- ---- the parts of the check

-- an index without a fault is not too long, and its entries have no fault
index_parts : (name : IndexName) (limit : ℕ) (index : List ℕ) → index_fault name limit index ≡ None
    → (length index ≤ limit) × (entries_fault name 0 index ≡ None)
index_parts name limit index e = let t = untaken _ (TooLong name) _ e in (ltb-false limit (length index) t.0, t.1)

pub record AcceptedParts (flat : FlatIndexes) : Type 0 where
  pub big5 : (length flat.big5 ≤ 19782) × (entries_fault names.Big5 0 flat.big5 ≡ None)
  pub euc_kr : (length flat.euc_kr ≤ 23940) × (entries_fault names.EucKr 0 flat.euc_kr ≡ None)
  pub jis0208 : (length flat.jis0208 ≤ 11280) × (entries_fault names.Jis0208 0 flat.jis0208 ≡ None)
  pub jis0212 : (length flat.jis0212 ≤ 8836) × (entries_fault names.Jis0212 0 flat.jis0212 ≡ None)
  pub gb18030 : (length flat.gb18030 ≤ 23940) × (entries_fault names.Gb18030 0 flat.gb18030 ≡ None)
  pub katakana : entries_fault names.Katakana 0 flat.katakana ≡ None
  pub ordered : range_order_fault 0 None flat.ranges ≡ None
  pub valued : range_value_fault 0 flat.ranges ≡ None
  pub private_use : rows_fault 0 None flat.gb18030_pua ≡ None

pub parts : (flat : FlatIndexes) → AreAccepted flat → AcceptedParts flat
unfolding table_fault
parts flat e = grind (arith, or_none, index_parts, nat_tests)

-- no index of pairs is longer than 23940 entries
pub order_index-short : (flat : FlatIndexes) → AreAccepted flat → (part : PackedPart) → length (order_index flat part) ≤ 23940
order_index-short flat accepted part =
    let p = parts flat accepted in
    grind (arith, p.big5.0, p.euc_kr.0, p.jis0208.0, p.jis0212.0, p.gb18030.0)

-- ---- entries: 0, and the others that are allowed

-- an entry that is 0, or passes its test
pub entry_has : (P : ℕ → Type 0) (entry : ℕ) (test : Bool) (fault : TableError) (other : Option TableError) → P 0
    → (test ≡ true → P entry) → cond (entry == 0) None (cond (not test) (Some fault) other) ≡ None → P entry
entry_has P entry test fault other at_zero good e = grind arith

-- each of the entries without a fault has none, and 0 has none
pub entry_at : (name : IndexName) (place : ℕ) (index : List ℕ) → entries_fault name place index ≡ None → (k : ℕ)
    → entry_fault name (place + k) (get_or index k 0) ≡ None
unfolding entries_fault
entry_at name place [] e k = refl
entry_at name place (x ∷ xs) e zero = grind (arith, or_none)
entry_at name place (x ∷ xs) e (suc k) = grind (arith, or_none, entry_at name (place + 1) xs)

pub all_entries : (P : ℕ → Type 0) (name : IndexName) → P 0 → ((e : ℕ) → is_entry name e ≡ true → P e) → (place : ℕ) (index : List ℕ)
    → entries_fault name place index ≡ None → All P index
all_entries P name at_zero good place index e = λ k d h.
    rw (get_or_default index k d 0 h) (entry_has P _ (is_entry name _) (BadEntry name _) _ at_zero (good _) (entry_at name place index e k))

allowed-scalar : (name : IndexName) (e : ℕ) → is_entry name e ≡ true → IsScalar e
allowed-scalar name e h = grind (arith, nat_tests)

allowed-below : (name : IndexName) → is_narrow_index name ≡ true → (e : ℕ) → is_entry name e ≡ true → e < 0x1_0000
allowed-below name narrow e h = grind (arith, nat_tests)

-- ---- accepted indexes: their entries are scalars, of the Basic Multilingual Plane except in Big5

module _ (flat : FlatIndexes) (accepted : AreAccepted flat) where
  entries-fine : (name : IndexName) → entries_fault name 0 (index_list flat name) ≡ None
  unfolding entries_fault
  entries-fine name =
      let p = parts flat accepted in
      grind (arith, p.big5.1, p.euc_kr.1, p.jis0208.1, p.jis0212.1, p.gb18030.1, p.katakana)

  pub index-scalars : (name : IndexName) → AreScalars (index_list flat name)
  index-scalars name = all_entries IsScalar name refl (allowed-scalar name) 0 (index_list flat name) (entries-fine name)

  narrow-short : (name : IndexName) → is_narrow_index name ≡ true → length (index_list flat name) ≤ 65535
  narrow-short name narrow =
      let p = parts flat accepted in
      grind (arith, p.euc_kr.0, p.jis0208.0, p.jis0212.0, p.gb18030.0)

  pub narrow_index : (name : IndexName) → is_narrow_index name ≡ true
      → All (λ c. c < 0x1_0000) (index_list flat name) × (length (index_list flat name) ≤ 65535)
  narrow_index name narrow =
      (all_entries _ name (omega arith) (allowed-below name narrow) 0 (index_list flat name) (entries-fine name), narrow-short name narrow)

  pub big5-scalars : AreScalars flat.big5
  big5-scalars = index-scalars names.Big5

  pub euc_kr-scalars : AreScalars flat.euc_kr
  euc_kr-scalars = index-scalars names.EucKr

  pub jis0208-scalars : AreScalars flat.jis0208
  jis0208-scalars = index-scalars names.Jis0208

  pub jis0212-scalars : AreScalars flat.jis0212
  jis0212-scalars = index-scalars names.Jis0212

  pub gb18030-scalars : AreScalars flat.gb18030
  gb18030-scalars = index-scalars names.Gb18030

  pub euc_kr-below : All (λ c. c < 0x1_0000) flat.euc_kr
  euc_kr-below = (narrow_index names.EucKr refl).0

  pub jis0208-below : All (λ c. c < 0x1_0000) flat.jis0208
  jis0208-below = (narrow_index names.Jis0208 refl).0

  pub jis0212-below : All (λ c. c < 0x1_0000) flat.jis0212
  jis0212-below = (narrow_index names.Jis0212 refl).0

  pub gb18030-below : All (λ c. c < 0x1_0000) flat.gb18030
  gb18030-below = (narrow_index names.Gb18030 refl).0

  -- a pointer of an index that has a scalar has no other rule
  pub entry-used : (name : IndexName) (p c : ℕ) → Some c ≡ idx (index_list flat name) p → must_be_empty name p ≡ false
  entry-used name p c e = grind (arith, entry_at name 0 (index_list flat name) (entries-fine name) p)

  pub length-big5 : length flat.big5 ≤ 19782
  length-big5 = (parts flat accepted).big5.0

  pub length-euc_kr : length flat.euc_kr ≤ 23940
  length-euc_kr = (parts flat accepted).euc_kr.0

  pub length-jis0208 : length flat.jis0208 ≤ 11280
  length-jis0208 = (parts flat accepted).jis0208.0

  pub length-gb18030 : length flat.gb18030 ≤ 23940
  length-gb18030 = (parts flat accepted).gb18030.0

-- ---- accepted ranges

range_step : (place : ℕ) (before : Option (ℕ × ℕ)) (r : ℕ × ℕ) (ranges : List (ℕ × ℕ)) → range_order_fault place before (r ∷ ranges) ≡ None
    → ((nat_le r.0 39419 && follows_range before r) ≡ true) × (range_order_fault (place + 1) (Some r) ranges ≡ None)
unfolding range_order_fault
range_step place before r ranges e = taken _ (RangeOrder place) _ e

module _ (ranges : List (ℕ × ℕ)) (ordered : range_order_fault 0 None ranges ≡ None) where
  -- each range starts at 39419 or before
  pub started_by : (k : ℕ) → k < length ranges → (get_or ranges k (0, 0)).0 ≤ 39419
  started_by k h =
      leb-true _ 39419 (and_parts _ _ (each-fine range_order_fault (λ before r. (nat_le r.0 39419 && follows_range before r) ≡ true) (λ r. Some r)
      range_step 0 None ranges ordered k (0, 0) h)).0

  -- pointers and scalars rise together, and pointers do not rise by more
  pub climb : AllAdjacentBelow (λ r s. (r.0 < s.0) × (r.1 + (s.0 - r.0) ≤ s.1)) ranges (length ranges)
  climb k d h =
      let fine = each-fine range_order_fault (λ before r. (nat_le r.0 39419 && follows_range before r) ≡ true) (λ r. Some r)
      range_step 0 None ranges ordered (suc k) d (omega arith) in
      let b = and_parts _ _ (and_parts _ _ fine).1 in
      rw (add-one k) (ltb-true _ _ b.0, leb-true _ _ b.1)

  pub rising : IsNonDecreasingBy (λ r. r.0) ranges
  rising = IsNonDecreasingBy-from_all_adjacent (λ r. r.0) ranges (λ k d h. let up = (climb k d h).0 in omega arith)

  pub rising_scalars : IsNonDecreasingBy (λ r. r.1) ranges
  rising_scalars =
      IsNonDecreasingBy-from_all_adjacent (λ r. r.1) ranges (λ k d h. let low = (climb k d h).0 in let high = (climb k d h).1 in omega arith)

-- the last range that starts at or before p, at place n
pub record IsGiven (ranges : List (ℕ × ℕ)) (p n : ℕ) : Type 0 where
  pub within : n < length ranges
  pub started : (get_or ranges n (0, 0)).0 ≤ p
  pub ahead : (k : ℕ) → n < k → k < length ranges → p < (get_or ranges k (0, 0)).0

pub last-none : (ranges : List (ℕ × ℕ)) (p : ℕ) → ((k : ℕ) → k < length ranges → p < (get_or ranges k (0, 0)).0)
    → last_range_scalar ranges p ≡ None
last-none [] p ahead = refl
last-none (r ∷ ranges) p ahead =
    let first : p < r.0 = ahead 0 (omega arith) in
    rw (last-none ranges p (λ k h. ahead (suc k) (omega arith)), lt-leb r.0 p first) refl

pub last-at : (ranges : List (ℕ × ℕ)) (p n : ℕ) → IsGiven ranges p n
    → last_range_scalar ranges p ≡ Some ((get_or ranges n (0, 0)).1 + (p - (get_or ranges n (0, 0)).0))
last-at [] p n is = let h = is.within in absurd (omega arith)
last-at (r ∷ ranges) p zero is =
    rw (last-none ranges p (λ k h. is.ahead (suc k) (omega arith) (omega arith)), le-leb r.0 p is.started) refl
last-at (r ∷ ranges) p (suc n) is =
    let h = is.within in
    rw (last-at ranges p n (record { within = omega arith; started = is.started; ahead = λ k m l. is.ahead (suc k) (omega arith) (omega arith) })) refl

-- if no range starts at or before p, all start after it
pub none-ahead : (ranges : List (ℕ × ℕ)) (p : ℕ) → last_range_scalar ranges p ≡ None → (k : ℕ) → k < length ranges
    → p < (get_or ranges k (0, 0)).0
none-ahead [] p e k h = absurd (omega arith)
none-ahead (r ∷ ranges) p e zero h = leb-false r.0 p (untaken _ (r.1 + (p - r.0)) None (or_none (last_range_scalar ranges p) _ e).1).0
none-ahead (r ∷ ranges) p e (suc k) h = none-ahead ranges p (or_none (last_range_scalar ranges p) _ e).0 k (omega arith)

next-above : (ranges : List (ℕ × ℕ)) (p : ℕ) → p ≤ 39419 → last_range_scalar ranges p ≡ None → p < next_pointer ranges
next-above [] p h e = omega arith
next-above (r ∷ ranges) p h e = none-ahead (r ∷ ranges) p e 0 (omega arith)

-- a range gives p its scalar, or is the last that starts at or before p
pub last-cases : (r : ℕ × ℕ) (ranges : List (ℕ × ℕ)) (p c : ℕ) → last_range_scalar (r ∷ ranges) p ≡ Some c
    → (last_range_scalar ranges p ≡ Some c) ⊎ ((last_range_scalar ranges p ≡ None) × (r.0 ≤ p) × (r.1 + (p - r.0) ≡ c))
last-cases r ranges p c e = grind (arith, nat_tests)

in_range : (r0 r1 end p : ℕ) → has_range_scalars (r0, r1) end ≡ true → r0 ≤ p → p < end → IsScalar (r1 + (p - r0)) × (r1 + (p - r0) < 0x1_0000)
in_range r0 r1 end p h l g = (grind (arith, nat_tests), grind (arith, nat_tests))

-- ranges give only scalars below U+10000
pub last_range-narrow : (place : ℕ) (ranges : List (ℕ × ℕ)) → range_value_fault place ranges ≡ None
    → (p c : ℕ) → p ≤ 39419 → last_range_scalar ranges p ≡ Some c → IsScalar c × (c < 0x1_0000)
unfolding range_value_fault
last_range-narrow place [] e p c h is = cc
last_range-narrow place (r ∷ ranges) e p c h is =
    let t = taken _ (RangeValue place) (range_value_fault (place + 1) ranges) e in
    grind (arith, last-cases r ranges p c is, last_range-narrow (place + 1) ranges t.1 p c h, next-above ranges p h, in_range r.0 r.1 _ p t.0)

-- ---- look-ups

-- the scalar of an entry is the entry, which is not 0
pub entry_scalar-is : (e c : ℕ) → entry_scalar e ≡ Some c → (c ≢ 0) × (e ≡ c)
entry_scalar-is e c h = grind arith

-- a property of all entries of an index holds for the scalar of each pointer
pub idx-all : (P : ℕ → Type 0) (index : List ℕ) → All P index → (p c : ℕ) → idx index p ≡ Some c → P c
idx-all P [] all p c e = cc
idx-all P (x ∷ xs) all zero c e = subst P (entry_scalar-is x c e).1 (all 0 0 (omega arith))
idx-all P (x ∷ xs) all (suc p) c e = idx-all P xs (λ k d l. all (suc k) d (omega arith)) p c e

wide-scalar : (p : ℕ) → is_in_range 189000 1237575 p ≡ true → IsScalar (0x1_0000 + (p - 189000))
wide-scalar p h = grind (arith, nat_tests)

-- the three ways in which `range` gives a scalar
pub range-cases : (ranges : List (ℕ × ℕ)) (p c : ℕ) → range ranges p ≡ Some c → (c ≡ 0xE7C7)
    ⊎ (((is_in_range 189000 1237575 p ≡ true) × (0x1_0000 + (p - 189000) ≡ c))
    ⊎ ((p ≢ 7457) × (p ≤ 39419) × (last_range_scalar ranges p ≡ Some c)))
unfolding range
range-cases ranges p c e = grind (arith, nat_tests)

-- `range` gives only scalars for accepted ranges
pub range-scalar : (flat : FlatIndexes) → AreAccepted flat → (p c : ℕ) → range flat.ranges p ≡ Some c → IsScalar c
range-scalar flat accepted p c e =
    grind (arith, range-cases flat.ranges p c e, wide-scalar p, last_range-narrow 0 flat.ranges (parts flat accepted).valued p c)
