-- The packed parts of accepted indexes are accepted.
use Rattle.std.proofs.{Common.{◌≡◌, ℕ, ◌≤◌, ◌<◌, length, refl, arith, None, Option, true, ◌||◌}, lemmas.Bool.Decides.nat_tests}
use Rattle.std.specs.{Int.is_in_range, Option.option_or}
use Rattle.legacy_tables.specs.{declared.tables.packed.Packed.Packed, declared.tables.packed.PackedPart.PackedPart}
use Rattle.legacy_tables.specs.{declared.tables.TableError.TableError, Indexes.FlatIndexes, TableChecks.{AreAccepted, is_narrow_entry, table_fault}}
use Rattle.legacy_tables.specs.{Packed.{all_runs_fault, all_orders_fault}, Walks.order_index}
use Rattle.legacy_tables.proofs.Accepted.{parts, all_entries, order_index-short, euc_kr-below, jis0208-below, jis0212-below, gb18030-below}
use Rattle.legacy_tables.proofs.PackedAccepted.{entry_all, entry-narrow}
use Rattle.legacy_index_files.specs.{declared.packing.OwnedPacked.OwnedPacked, Packing.{GiveRuns, GiveOrders, HasParts, IsPackOf}}
use Rattle.legacy_index_files.proofs.{PackingRuns.{HasEntriesBelow, runs-accepted}, PackingOrders.order-accepted}
use Rattle.legacy_tables.specs.declared.tables.IndexName.TheVariants as names
use Rattle.legacy_tables.specs.declared.tables.packed.PackedPart.TheVariants as parts

-- ---- the entries of accepted indexes

is_wide-below : (e : ℕ) → (is_narrow_entry e || is_in_range 0x2_0000 0x2_FFFF e) ≡ true → e < 0x3_0000
is_wide-below e h = grind (arith, nat_tests)

-- ---- the parts

module _ (flat : FlatIndexes) (owned : OwnedPacked) (runs : GiveRuns flat owned) (orders : GiveOrders flat owned)
    (packed : Packed) (has : HasParts owned packed) where
  module _ (accepted : AreAccepted flat) where
    short : (part : PackedPart) → length (order_index flat part) ≤ 23940
    short part = order_index-short flat accepted part

    big5_below : HasEntriesBelow 0x3_0000 flat.big5
    big5_below = record {
      at = entry_all (λ e. e < 0x3_0000) flat.big5 (omega arith)
          (all_entries (λ e. e < 0x3_0000) names.Big5 (omega arith) is_wide-below 0 flat.big5 (parts flat accepted).big5.1);
    }

    euc_kr_below : HasEntriesBelow 0x1_0000 flat.euc_kr
    euc_kr_below = record { at = entry-narrow flat.euc_kr (euc_kr-below flat accepted) }

    jis0208_below : HasEntriesBelow 0x1_0000 flat.jis0208
    jis0208_below = record { at = entry-narrow flat.jis0208 (jis0208-below flat accepted) }

    jis0212_below : HasEntriesBelow 0x1_0000 flat.jis0212
    jis0212_below = record { at = entry-narrow flat.jis0212 (jis0212-below flat accepted) }

    gb18030_below : HasEntriesBelow 0x1_0000 flat.gb18030
    gb18030_below = record { at = entry-narrow flat.gb18030 (gb18030-below flat accepted) }

    runs_whole : all_runs_fault flat packed ≡ None
    unfolding all_runs_fault
    runs_whole = grind (
      arith,
      runs-accepted 19782 0x3_0000 flat.big5 owned.big5.items runs.big5 big5_below (omega arith),
      runs-accepted 23940 0x1_0000 flat.euc_kr owned.euc_kr.items runs.euc_kr euc_kr_below (omega arith),
      runs-accepted 11280 0x1_0000 flat.jis0208 owned.jis0208.items runs.jis0208 jis0208_below (omega arith),
      runs-accepted 8836 0x1_0000 flat.jis0212 owned.jis0212.items runs.jis0212 jis0212_below (omega arith),
      runs-accepted 23940 0x1_0000 flat.gb18030 owned.gb18030.items runs.gb18030 gb18030_below (omega arith),
    )

    orders_whole : all_orders_fault flat packed ≡ None
    unfolding all_orders_fault
    orders_whole = grind (
      arith,
      orders.big5 (short parts.Big5Order),
      orders.euc_kr (short parts.EucKrOrder),
      orders.shift_jis (short parts.ShiftJisOrder),
      orders.euc_jp (short parts.EucJpOrder),
      orders.gb18030 (short parts.Gb18030Order),
      order-accepted parts.Big5Order flat.big5 0x3_0000 big5_below,
      order-accepted parts.EucKrOrder flat.euc_kr 0x1_0000 euc_kr_below,
      order-accepted parts.ShiftJisOrder flat.jis0208 0x1_0000 jis0208_below,
      order-accepted parts.EucJpOrder flat.jis0208 0x1_0000 jis0208_below,
      order-accepted parts.Gb18030Order flat.gb18030 0x1_0000 gb18030_below,
    )

  no_more_faults : (o : Option TableError) → table_fault flat ≡ o
      → option_or o (option_or (all_runs_fault flat packed) (all_orders_fault flat packed)) ≡ o
  no_more_faults o e = grind (arith, runs_whole, orders_whole)

pub pack-made : (flat : FlatIndexes) (owned : OwnedPacked) → GiveRuns flat owned → GiveOrders flat owned → IsPackOf flat owned
pack-made flat owned runs orders = record {
  runs = runs;
  orders = orders;
  faults = λ packed has. no_more_faults flat owned runs orders packed has (table_fault flat) refl;
}
