-- Packed indexes: runs instead of flat indexes, and orders of the pointers that encoders use. These definitions say
-- which are accepted for given flat indexes, and the first fault of others.
use Rattle.std.specs.Prelude.{◌≡◌, ℕ, ◌+◌, List, [], ◌∷◌, Option, Some, None, Bool, false}
use Rattle.std.specs.Prelude.{not, ◌&&◌, ◌==◌, nat_lt, if◌then◌else◌, length, option_map}
use Rattle.std.specs.Prelude.{slice_index, find}
use Rattle.std.specs.Option.{option_or, option_eq}
use Rattle.std.specs.List.{list_any, range_with_len}
use Rattle.legacy_tables.specs.declared.tables.IndexName.{IndexName}
use Rattle.legacy_tables.specs.declared.tables.packed.Run.{Run}
use Rattle.legacy_tables.specs.declared.tables.packed.Packed.{Packed}
use Rattle.legacy_tables.specs.declared.tables.packed.PackedPart.{PackedPart}
use Rattle.legacy_tables.specs.declared.tables.packed.PackedPart.TheVariants as parts
use Rattle.legacy_tables.specs.declared.tables.TableError.{TableError}
use Rattle.legacy_tables.specs.declared.tables.TableError.TheVariants.{PackedOrder, PackedDiffers}
use Rattle.legacy_tables.specs.Indexes.{FlatIndexes, idx}
use Rattle.legacy_tables.specs.AcceptedTables.{flat_lists}
use Rattle.legacy_tables.specs.TableChecks.{table_fault}
use Rattle.legacy_tables.specs.Tables.{index_list}
use Rattle.legacy_tables.specs.Pointers.{every_pointer, is_big5_pointer, is_shift_jis_pointer}
use Rattle.legacy_tables.specs.Pointers.{is_jis0208_pointer, first_pointer, last_pointer, takes_last_big5_pointer}
use Rattle.legacy_tables.specs.PointerRuns.{runs_scalar, runs_list, run_fault}

-- the fault of a part: it is out of order, or differs from the flat index
abbrev pub part_fault : PackedPart → Option ℕ → Option ℕ → Option TableError
part_fault part order difference =
    option_or (option_map (PackedOrder part) order) (option_map (PackedDiffers part) difference)

-- ---- runs

-- true if the runs and the flat index give the pointer different scalars
abbrev pub differs_at : List Run → List ℕ → ℕ → Bool
differs_at runs index p = not (option_eq (λ x y. x == y) (idx index p) (runs_scalar runs p))

-- the least such pointer below the limit
unfoldable pub run_difference : ℕ → List Run → List ℕ → Option ℕ
run_difference limit runs index = find (differs_at runs index) (range_with_len 0 limit)

-- the first fault of a part with runs
abbrev pub runs_fault : PackedPart → ℕ → List Run → List ℕ → Option TableError
runs_fault part limit runs index =
    part_fault part (run_fault limit runs) (run_difference limit runs index)

-- ---- orders

-- true for the pointers that the codec of an order may use
abbrev pub may_use : PackedPart → ℕ → Bool
may_use parts.Big5Order p = is_big5_pointer p
may_use parts.ShiftJisOrder p = is_shift_jis_pointer p
may_use parts.EucJpOrder p = is_jis0208_pointer p
may_use _ p = every_pointer p

-- true if the codec uses the last of the scalar's pointers
abbrev pub takes_last : PackedPart → ℕ → Bool
takes_last parts.Big5Order c = takes_last_big5_pointer c
takes_last _ c = false

-- the pointer that the codec uses for a scalar
abbrev pub pointer_of : PackedPart → List ℕ → ℕ → Option ℕ
pointer_of part index c =
    if takes_last part c then last_pointer (may_use part) index c
    else first_pointer (may_use part) index c

-- the pointer may be used, and its scalar is above `above`; an entry 0 is no scalar
abbrev pub is_pointer_in_order : PackedPart → List ℕ → ℕ → ℕ → Bool
is_pointer_in_order part index above p = may_use part p && nat_lt above (slice_index index p)

-- the first place of a pointer that is not in order, counted from `place`; `above` is the scalar before it
unfoldable pub order_fault_from : PackedPart → List ℕ → ℕ → ℕ → List ℕ → Option ℕ
order_fault_from part index place above [] = None
order_fault_from part index place above (p ∷ order) =
    if is_pointer_in_order part index above p
    then order_fault_from part index (place + 1) (slice_index index p) order
    else Some place

-- the first place of a pointer that is not in order
abbrev pub order_fault : PackedPart → List ℕ → List ℕ → Option ℕ
order_fault part index order = order_fault_from part index 0 0 order

-- the order contains the pointer
abbrev pub holds_pointer : List ℕ → Option ℕ → Bool
holds_pointer order None = false
holds_pointer order (Some p) = list_any (λ q. p == q) order

-- the pointer may be used and is mapped, but the order lacks the pointer that the codec uses for its scalar
abbrev pub is_lacking : PackedPart → List ℕ → List ℕ → ℕ → Bool
is_lacking part index order p =
    if slice_index index p == 0 then false
    else may_use part p && not (holds_pointer order (pointer_of part index (slice_index index p)))

-- the least such pointer of the index
unfoldable pub order_difference : PackedPart → List ℕ → List ℕ → Option ℕ
order_difference part index order =
    find (is_lacking part index order) (range_with_len 0 (length index))

-- the first fault of a part with an order
abbrev pub pointers_fault : PackedPart → List ℕ → List ℕ → Option TableError
pointers_fault part index order =
    part_fault part (order_fault part index order) (order_difference part index order)

-- ---- all parts

-- the first fault of the five parts with runs
unfoldable pub all_runs_fault : FlatIndexes → Packed → Option TableError
all_runs_fault flat packed =
    option_or (runs_fault parts.Big5 19782 packed.big5.now flat.big5)
    (option_or (runs_fault parts.EucKr 23940 packed.euc_kr.now flat.euc_kr)
    (option_or (runs_fault parts.Jis0208 11280 packed.jis0208.now flat.jis0208)
    (option_or (runs_fault parts.Jis0212 8836 packed.jis0212.now flat.jis0212)
    (runs_fault parts.Gb18030 23940 packed.gb18030.now flat.gb18030))))

-- the first fault of the five parts with orders
unfoldable pub all_orders_fault : FlatIndexes → Packed → Option TableError
all_orders_fault flat packed =
    option_or (pointers_fault parts.Big5Order flat.big5 packed.big5_order.now)
    (option_or (pointers_fault parts.EucKrOrder flat.euc_kr packed.euc_kr_order.now)
    (option_or (pointers_fault parts.ShiftJisOrder flat.jis0208 packed.shift_jis_order.now)
    (option_or (pointers_fault parts.EucJpOrder flat.jis0208 packed.euc_jp_order.now)
    (pointers_fault parts.Gb18030Order flat.gb18030 packed.gb18030_order.now))))

-- The first fault of indexes and packed indexes. The indexes are checked first, and then the ten parts in their order.
abbrev pub packed_fault : FlatIndexes → Packed → Option TableError
packed_fault flat packed =
    option_or (table_fault flat)
    (option_or (all_runs_fault flat packed) (all_orders_fault flat packed))

-- the lists that runs give, with katakana, ranges and private-use rows unchanged
abbrev pub packed_lists : FlatIndexes → Packed → FlatIndexes
packed_lists flat packed =
    flat_lists (runs_list packed.big5.now) (runs_list packed.euc_kr.now)
    (runs_list packed.jis0208.now) (runs_list packed.jis0212.now)
    (runs_list packed.gb18030.now) flat.katakana flat.ranges flat.gb18030_pua

-- lists with the same scalar at each pointer
pub record AnswerAlike (a b : FlatIndexes) : Type 0 where
  pub idx : (name : IndexName) (p : ℕ) → idx (index_list a name) p ≡ idx (index_list b name) p
  pub ranges : a.ranges ≡ b.ranges
  pub gb18030_pua : a.gb18030_pua ≡ b.gb18030_pua

-- Tables made of packed indexes. There was no fault, and they are the lists that the runs give, with the same scalars
-- as the flat indexes.
pub record ArePackedTables (indexes : FlatIndexes) (packed : Packed)
    (lists : FlatIndexes) : Type 0 where
  pub no_fault : packed_fault indexes packed ≡ None
  pub given : lists ≡ packed_lists indexes packed
  pub alike : AnswerAlike lists indexes
