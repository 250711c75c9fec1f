-- The runs and orders of packed tables.
use Rattle.std.specs.Prelude.{◌≡◌, ℕ, List, Option, None, true}
use Rattle.legacy_tables.specs.declared.tables.packed.Packed.{Packed}
use Rattle.legacy_tables.specs.declared.tables.packed.PackedPart.TheVariants as parts
use Rattle.legacy_tables.specs.declared.tables.packed_checks.CheckedRuns.{CheckedRuns}
use Rattle.legacy_tables.specs.declared.tables.order_checks.CheckedOrders.{CheckedOrders}
use Rattle.legacy_tables.specs.declared.tables.order_checks.LastPointers.{LastPointers}
use Rattle.legacy_tables.specs.declared.tables.packed.PackedPart.{PackedPart}
use Rattle.legacy_tables.specs.Indexes.{FlatIndexes}
use Rattle.legacy_tables.specs.Packed.{pointer_of, takes_last}
use Rattle.legacy_tables.specs.Orders.{IsOrder}
use Rattle.legacy_tables.specs.PointerRuns.{run_fault, runs_list}
use Rattle.legacy_tables.specs.AcceptedTables.{flat_lists}

-- packed tables as flat lists
abbrev pub lists_of_runs : CheckedRuns → List ℕ → List (ℕ × ℕ) → List (ℕ × ℕ × ℕ) → FlatIndexes
lists_of_runs runs katakana ranges gb18030_pua =
    flat_lists (runs_list runs.big5.runs.now) (runs_list runs.euc_kr.runs.now)
    (runs_list runs.jis0208.runs.now) (runs_list runs.jis0212.runs.now)
    (runs_list runs.gb18030.runs.now) katakana ranges gb18030_pua

-- the runs are those of packed indexes
pub record AreRunsOf (runs : CheckedRuns) (packed : Packed) : Type 0 where
  pub big5 : runs.big5.runs.now ≡ packed.big5.now
  pub euc_kr : runs.euc_kr.runs.now ≡ packed.euc_kr.now
  pub jis0208 : runs.jis0208.runs.now ≡ packed.jis0208.now
  pub jis0212 : runs.jis0212.runs.now ≡ packed.jis0212.now
  pub gb18030 : runs.gb18030.runs.now ≡ packed.gb18030.now

-- the runs of packed indexes are in order
pub record AreRunsInOrder (packed : Packed) : Type 0 where
  pub big5 : run_fault 19782 packed.big5.now ≡ None
  pub euc_kr : run_fault 23940 packed.euc_kr.now ≡ None
  pub jis0208 : run_fault 11280 packed.jis0208.now ≡ None
  pub jis0212 : run_fault 8836 packed.jis0212.now ≡ None
  pub gb18030 : run_fault 23940 packed.gb18030.now ≡ None

-- the orders are those of packed indexes
pub record AreOrdersOf (orders : CheckedOrders) (packed : Packed) : Type 0 where
  pub big5 : orders.big5.now ≡ packed.big5_order.now
  pub euc_kr : orders.euc_kr.now ≡ packed.euc_kr_order.now
  pub shift_jis : orders.shift_jis.now ≡ packed.shift_jis_order.now
  pub euc_jp : orders.euc_jp.now ≡ packed.euc_jp_order.now
  pub gb18030 : orders.gb18030.now ≡ packed.gb18030_order.now

-- the orders give the pointers that the codecs use in flat indexes
pub record AnswerPointersOf (orders : CheckedOrders) (flat : FlatIndexes) : Type 0 where
  pub big5 : IsOrder parts.Big5Order flat.big5 orders.big5.now
  pub euc_kr : IsOrder parts.EucKrOrder flat.euc_kr orders.euc_kr.now
  pub shift_jis : IsOrder parts.ShiftJisOrder flat.jis0208 orders.shift_jis.now
  pub euc_jp : IsOrder parts.EucJpOrder flat.jis0208 orders.euc_jp.now
  pub gb18030 : IsOrder parts.Gb18030Order flat.gb18030 orders.gb18030.now

-- `taken` is the pointer used for the scalar c, if the codec uses the last of its pointers
abbrev pub IsLast : PackedPart → List ℕ → ℕ → Option ℕ → Type 0
IsLast part index c taken = takes_last part c ≡ true → pointer_of part index c ≡ taken

-- the last pointers of an index are the pointers used
pub record AreLastPointers (part : PackedPart) (index : List ℕ)
    (lasts : LastPointers) : Type 0 where
  pub of_2550 : IsLast part index 0x2550 lasts.of_2550
  pub of_255e : IsLast part index 0x255E lasts.of_255e
  pub of_2561 : IsLast part index 0x2561 lasts.of_2561
  pub of_256a : IsLast part index 0x256A lasts.of_256a
  pub of_5341 : IsLast part index 0x5341 lasts.of_5341
  pub of_5345 : IsLast part index 0x5345 lasts.of_5345
