-- Runs with the scalars of accepted indexes are accepted indexes too.
use Rattle.std.proofs.Common.{◌≡◌, ◌∙◌, ℕ, suc, ◌+◌, ◌≤◌, ◌<◌, All, List, [], ◌∷◌, length, get_or, refl, sym, ap, arith, None, Option, false, not, ◌==◌}
use Rattle.std.proofs.{Common.{inl, inr}, lemmas.Bool.{cases_lt}, lemmas.Bool.Decides.nat_tests, lemmas.List.get_or_past}
use Rattle.std.proofs.lemmas.List.Elements.{All-get_or}
use Rattle.std.specs.{Char.IsScalar, Option.{option_eq, option_map_or}}
use borrow.Author.Tests.{le-ltb}
use Rattle.legacy_tables.specs.{declared.tables.IndexName.IndexName, declared.tables.packed.Run.Run, declared.tables.packed.Packed.Packed}
use Rattle.legacy_tables.specs.{declared.tables.packed.PackedPart.PackedPart, Unicode.AreScalars, Indexes.{FlatIndexes, idx, entry_scalar}}
use Rattle.legacy_tables.specs.{TableChecks.{entry_fault, entries_fault, index_fault, table_fault, AreAccepted}, PointerRuns.{run_at, run_end, runs_scalar}}
use Rattle.legacy_tables.specs.{PointerRuns.{run_fault, runs_list}, Tables.index_list}
use Rattle.legacy_tables.specs.Packed.{part_fault, differs_at, run_difference, runs_fault, all_runs_fault}
use Rattle.legacy_tables.specs.{Packed.{all_orders_fault, packed_lists, ArePackedTables}, PackedTables.{lists_of_runs, AreRunsOf, AreRunsInOrder}}
use Rattle.legacy_tables.specs.{PackedTables.{AreOrdersOf, AnswerPointersOf}, Packed.{pointers_fault, order_fault, order_difference}, Orders.IsOrder}
use Rattle.legacy_tables.specs.{declared.tables.packed_checks.CheckedRuns.CheckedRuns, declared.tables.order_checks.CheckedOrders.CheckedOrders}
use Rattle.legacy_tables.proofs.Accepted.{parts, or_none, entry_at, index-scalars, big5-scalars, narrow_index}
use Rattle.legacy_tables.proofs.{FirstPlaces.find-none-at, Orders.{order-same, order-rises, order-lookup, order-answers}, PackedRuns.{no_run, are_in_order}}
use Rattle.legacy_tables.proofs.PackedRuns.{scalar-none, outside-after, runs_end-within, runs_list-length, runs_list-entry}
use Rattle.legacy_tables.specs.declared.tables.IndexName.TheVariants as names
use Rattle.legacy_tables.specs.declared.tables.packed.PackedPart.TheVariants as parts

-- ---- each entry is a scalar, also 0 past the end

pub entry_all : (P : ℕ → Type 0) (xs : List ℕ) → P 0 → All P xs → (p : ℕ) → P (get_or xs p 0)
entry_all P xs at_zero all p = grind (arith, nat_tests, All-get_or, get_or_past)

pub entry-scalar : (xs : List ℕ) → AreScalars xs → (p : ℕ) → IsScalar (get_or xs p 0)
entry-scalar xs all p = entry_all IsScalar xs refl all p

pub entry-wide : (xs : List ℕ) → AreScalars xs → (p : ℕ) → get_or xs p 0 < 0x1_0000_0000
entry-wide xs all p = let is = entry-scalar xs all p in grind (arith, nat_tests)

-- each entry of a narrow index is below U+10000
pub entry-narrow : (xs : List ℕ) → All (λ c. c < 0x1_0000) xs → (p : ℕ) → get_or xs p 0 < 0x1_0000
entry-narrow xs all p = entry_all (λ c. c < 0x1_0000) xs (omega arith) all p

-- ---- one index

same_options : (a b : Option ℕ) → not (option_eq (λ x y. x == y) a b) ≡ false → a ≡ b
same_options a b e = grind arith

entry-back : (e : ℕ) → option_map_or (λ c. c) (entry_scalar e) 0 ≡ e
entry-back e = grind arith

part-none : (part : PackedPart) (a b : Option ℕ) → part_fault part a b ≡ None → (a ≡ None) × (b ≡ None)
part-none part a b e = grind arith

no_entries_fault : (name : IndexName) (place : ℕ) (index : List ℕ)
    → ((k : ℕ) → k < length index → entry_fault name (place + k) (get_or index k 0) ≡ None)
    → entries_fault name place index ≡ None
unfolding entries_fault
no_entries_fault name place [] all = refl
no_entries_fault name place (x ∷ xs) all =
    let e : place + 0 ≡ place = omega arith in
    rw (rw e at (all 0 (omega arith)))
    (no_entries_fault name (place + 1) xs (λ k h. let f : (place + 1) + k ≡ place + suc k = omega arith in rw f (all (suc k) (omega arith))))

-- runs give each pointer the entry of an index, and their list is an index without a fault
record Agree (name : IndexName) (limit : ℕ) (runs : List Run) (index : List ℕ) : Type 0 where
  same : (p : ℕ) → get_or (runs_list runs) p 0 ≡ get_or index p 0
  accepted : index_fault name limit (runs_list runs) ≡ None

module _ (part : PackedPart) (name : IndexName) (limit : ℕ) (runs : List Run) (index : List ℕ) (none : runs_fault part limit runs index ≡ None)
    (flat : (length index ≤ limit) × (entries_fault name 0 index ≡ None)) where
  reach : (k : ℕ) → k < length runs → run_end (run_at runs k) ≤ limit
  reach k h = (are_in_order limit runs (part-none part (run_fault limit runs) (run_difference limit runs index) none).0).reach k no_run h

  same_scalar : (p : ℕ) → idx index p ≡ runs_scalar runs p
  unfolding run_difference
  same_scalar p = elim (cases_lt p limit) [
    | inl h ↦
        same_options (idx index p) (runs_scalar runs p)
        (find-none-at (differs_at runs index) 0 limit (part-none part (run_fault limit runs) (run_difference limit runs index) none).1 p
        (omega arith) (omega arith))
    | inr h ↦
        let short = flat.0 in
        let none_there = scalar-none runs p (λ k l. let r = reach k l in outside-after (run_at runs k) p (omega arith)) in
        rw (get_or_past index p 0 (omega arith), none_there) refl
  ]

  same_entry : (p : ℕ) → get_or (runs_list runs) p 0 ≡ get_or index p 0
  same_entry p = runs_list-entry runs p ∙ ap (λ o. option_map_or (λ c. c) o 0) (sym (same_scalar p)) ∙ entry-back (get_or index p 0)

  agree : Agree name limit runs index
  agree = record {
    same = same_entry;
    accepted =
        let short : length (runs_list runs) ≤ limit = rw (runs_list-length runs) (runs_end-within limit runs reach) in
        rw (le-ltb limit (length (runs_list runs)) short)
        (no_entries_fault name 0 (runs_list runs) (λ k h. rw (same_entry k) (entry_at name 0 index flat.1 k)));
  }

-- an order without a fault is one of the list of runs too
order-of_runs : (part : PackedPart) (list index order : List ℕ) → ((p : ℕ) → get_or list p 0 ≡ get_or index p 0)
    → pointers_fault part index order ≡ None → IsOrder part list order
order-of_runs part list index order same none =
    let p = part-none part (order_fault part index order) (order_difference part index order) none in
    let lookup = order-lookup part index order p.0 in
    order-same part list index order same
    (record { rises = order-rises part index order p.0; answers = order-answers part index order _ lookup p.1 })

-- ---- all parts

-- runs without a fault are in order
pub runs-in_order : (flat : FlatIndexes) (packed : Packed) → all_runs_fault flat packed ≡ None → AreRunsInOrder packed
unfolding all_runs_fault
runs-in_order flat packed none =
    let a = or_none (runs_fault parts.Big5 19782 packed.big5.now flat.big5) _ none in
    let b = or_none (runs_fault parts.EucKr 23940 packed.euc_kr.now flat.euc_kr) _ a.1 in
    let c = or_none (runs_fault parts.Jis0208 11280 packed.jis0208.now flat.jis0208) _ b.1 in
    let d = or_none (runs_fault parts.Jis0212 8836 packed.jis0212.now flat.jis0212) _ c.1 in
    record {
      big5 = (part-none parts.Big5 (run_fault 19782 packed.big5.now) _ a.0).0;
      euc_kr = (part-none parts.EucKr (run_fault 23940 packed.euc_kr.now) _ b.0).0;
      jis0208 = (part-none parts.Jis0208 (run_fault 11280 packed.jis0208.now) _ c.0).0;
      jis0212 = (part-none parts.Jis0212 (run_fault 8836 packed.jis0212.now) _ d.0).0;
      gb18030 = (part-none parts.Gb18030 (run_fault 23940 packed.gb18030.now) _ d.1).0;
    }

record AllAgree (flat : FlatIndexes) (packed : Packed) : Type 0 where
  big5 : Agree names.Big5 19782 packed.big5.now flat.big5
  euc_kr : Agree names.EucKr 23940 packed.euc_kr.now flat.euc_kr
  jis0208 : Agree names.Jis0208 11280 packed.jis0208.now flat.jis0208
  jis0212 : Agree names.Jis0212 8836 packed.jis0212.now flat.jis0212
  gb18030 : Agree names.Gb18030 23940 packed.gb18030.now flat.gb18030

module _ (flat : FlatIndexes) (packed : Packed) (accepted : AreAccepted flat) (none : all_runs_fault flat packed ≡ None) where
  all_agree : AllAgree flat packed
  unfolding all_runs_fault
  all_agree =
      let p = parts flat accepted in
      let a = or_none (runs_fault parts.Big5 19782 packed.big5.now flat.big5) _ none in
      let b = or_none (runs_fault parts.EucKr 23940 packed.euc_kr.now flat.euc_kr) _ a.1 in
      let c = or_none (runs_fault parts.Jis0208 11280 packed.jis0208.now flat.jis0208) _ b.1 in
      let d = or_none (runs_fault parts.Jis0212 8836 packed.jis0212.now flat.jis0212) _ c.1 in
      record {
        big5 = agree parts.Big5 names.Big5 19782 _ _ a.0 p.big5;
        euc_kr = agree parts.EucKr names.EucKr 23940 _ _ b.0 p.euc_kr;
        jis0208 = agree parts.Jis0208 names.Jis0208 11280 _ _ c.0 p.jis0208;
        jis0212 = agree parts.Jis0212 names.Jis0212 8836 _ _ d.0 p.jis0212;
        gb18030 = agree parts.Gb18030 names.Gb18030 23940 _ _ d.1 p.gb18030;
      }

  pub packed-accepted : AreAccepted (packed_lists flat packed)
  unfolding table_fault
  packed-accepted = let p = parts flat accepted in let a = all_agree in grind arith

  -- the tables of those lists
  pub packed-tables : all_orders_fault flat packed ≡ None → ArePackedTables flat packed (packed_lists flat packed)
  packed-tables ordered = record {
    no_fault = rw (accepted, none) ordered;
    given = refl;
    alike = record { idx = same; ranges = refl; gb18030_pua = refl };
  }
    where
      same : (name : IndexName) (p : ℕ) → idx (index_list (packed_lists flat packed) name) p ≡ idx (index_list flat name) p
      same name p =
          let a = all_agree in
          grind (arith, a.big5.same p, a.euc_kr.same p, a.jis0208.same p, a.jis0212.same p, a.gb18030.same p)

  -- orders that passed the check give the same pointers in the lists of runs as in the flat indexes
  pub orders-answer : (orders : CheckedOrders) → AreOrdersOf orders packed → all_orders_fault flat packed ≡ None
      → AnswerPointersOf orders (packed_lists flat packed)
  unfolding all_orders_fault
  orders-answer orders are ordered =
      let s = all_agree in
      let a = or_none (pointers_fault parts.Big5Order flat.big5 packed.big5_order.now) _ ordered in
      let b = or_none (pointers_fault parts.EucKrOrder flat.euc_kr packed.euc_kr_order.now) _ a.1 in
      let c = or_none (pointers_fault parts.ShiftJisOrder flat.jis0208 packed.shift_jis_order.now) _ b.1 in
      let d = or_none (pointers_fault parts.EucJpOrder flat.jis0208 packed.euc_jp_order.now) _ c.1 in
      record {
        big5 = rw are.big5 (order-of_runs parts.Big5Order _ flat.big5 _ s.big5.same a.0);
        euc_kr = rw are.euc_kr (order-of_runs parts.EucKrOrder _ flat.euc_kr _ s.euc_kr.same b.0);
        shift_jis = rw are.shift_jis (order-of_runs parts.ShiftJisOrder _ flat.jis0208 _ s.jis0208.same c.0);
        euc_jp = rw are.euc_jp (order-of_runs parts.EucJpOrder _ flat.jis0208 _ s.jis0208.same d.0);
        gb18030 = rw are.gb18030 (order-of_runs parts.Gb18030Order _ flat.gb18030 _ s.gb18030.same d.1);
      }

-- the lists of packed tables
pub lists-same : (runs : CheckedRuns) (flat : FlatIndexes) (packed : Packed) → AreRunsOf runs packed
    → lists_of_runs runs flat.katakana flat.ranges flat.gb18030_pua ≡ packed_lists flat packed
lists-same runs flat packed are = rw (are.big5, are.euc_kr, are.jis0208, are.jis0212, are.gb18030) refl

pub ruleset entry_scalars = (entry-scalar, index-scalars)

pub ruleset entry_bounds = (entry-wide, entry-narrow, big5-scalars, narrow_index)
