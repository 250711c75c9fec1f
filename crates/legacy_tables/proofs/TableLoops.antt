-- Loops over an index, over ranges or over a single-byte table: their next step, and their end.
use Rattle.std.proofs.Common.{◌≡◌, ◌∙◌, ℕ, ◌+◌, ◌≤◌, ◌<◌, List, [], ◌∷◌, ◌++◌, length, get_or, take, reverse, drop, drop-cons, add-one, refl, sym, Some, None}
use Rattle.std.proofs.{Common.{Option, Bool, ◌&&◌, ◌||◌, cond, eqb, nat_le}, lemmas.Result.err_from_is_err_and, lemmas.Bool.le-ltb, lemmas.List.reverse-append}
use Rattle.std.proofs.{lemmas.List.Sorted.{list_any-IsPermutation, IsPermutation-reverse}, Math.Seq.take-suc, Math.ListN.drop_of_length-le}
use Rattle.std.specs.{List.list_any, Option.option_or}
use Rattle.legacy_tables.specs.{declared.tables.IndexName.IndexName, declared.tables.TableError.TheVariants.{RangeOrder, RangeValue}, TableChecks.entry_fault}
use Rattle.legacy_tables.specs.TableChecks.{entries_fault, follows_range, range_order_fault, next_pointer, has_range_scalars, range_value_fault, row_fault}
use Rattle.legacy_tables.specs.TableChecks.{rows_fault, byte_entry_fault, byte_entries_fault}

-- ---- the entries of an index

module _ (name : IndexName) (index : List ℕ) (p : ℕ) where
  pub entries_next : p < length index → entries_fault name p (drop p index)
      ≡ option_or (entry_fault name p (get_or index p 0)) (entries_fault name (p + 1) (drop (p + 1) index))
  unfolding entries_fault
  entries_next h = rw (drop-cons index p 0 h, add-one) refl

  pub entries_end : length index ≤ p → entries_fault name p (drop p index) ≡ None
  unfolding entries_fault
  entries_end h = rw (drop_of_length-le index h) refl

pub ruleset fault_steps = (err_from_is_err_and)

pub ruleset entries_steps = (entries_next, entries_end, err_from_is_err_and, le-ltb)

-- ---- the order of ranges, and their scalars

module _ (ranges : List (ℕ × ℕ)) (place : ℕ) where
  pub order_next : (before : Option (ℕ × ℕ)) → place < length ranges →
      range_order_fault place before (drop place ranges)
      ≡ cond (nat_le (get_or ranges place (0, 0)).0 39419 && follows_range before (get_or ranges place (0, 0)))
      (range_order_fault (place + 1) (Some (get_or ranges place (0, 0))) (drop (place + 1) ranges)) (Some (RangeOrder place))
  unfolding range_order_fault
  order_next before h = rw (drop-cons ranges place (0, 0) h, add-one) refl

  pub order_end : (before : Option (ℕ × ℕ)) → length ranges ≤ place → range_order_fault place before (drop place ranges) ≡ None
  unfolding range_order_fault
  order_end before h = rw (drop_of_length-le ranges h) refl

  pub value_next : place < length ranges →
      range_value_fault place (drop place ranges)
      ≡ cond (has_range_scalars (get_or ranges place (0, 0)) (next_pointer (drop (place + 1) ranges)))
      (range_value_fault (place + 1) (drop (place + 1) ranges)) (Some (RangeValue place))
  unfolding range_value_fault
  value_next h = rw (drop-cons ranges place (0, 0) h, add-one) refl

  pub value_end : length ranges ≤ place → range_value_fault place (drop place ranges) ≡ None
  unfolding range_value_fault
  value_end h = rw (drop_of_length-le ranges h) refl

-- ---- private-use rows

module _ (rows : List (ℕ × ℕ × ℕ)) (place : ℕ) (before : Option ℕ) where
  pub rows_next : place < length rows →
      rows_fault place before (drop place rows)
      ≡ option_or (row_fault place before (get_or rows place (0, 0, 0)))
      (rows_fault (place + 1) (Some (get_or rows place (0, 0, 0)).0) (drop (place + 1) rows))
  unfolding rows_fault
  rows_next h = rw (drop-cons rows place (0, 0, 0) h, add-one) refl

  pub rows_end : length rows ≤ place → rows_fault place before (drop place rows) ≡ None
  unfolding rows_fault
  rows_end h = rw (drop_of_length-le rows h) refl

-- ---- the entries of a single-byte table, with the entries before them in reverse order

list_any-reverse : (test : ℕ → Bool) (xs : List ℕ) → list_any test (reverse xs) ≡ list_any test xs
list_any-reverse test xs = sym (list_any-IsPermutation test xs (reverse xs) (IsPermutation-reverse xs))

module _ (table : List ℕ) (place : ℕ) where
  pub bytes_next : place < length table →
      byte_entries_fault place (reverse (take place table)) (drop place table)
      ≡ option_or (byte_entry_fault place (take place table) (get_or table place 0))
      (byte_entries_fault (place + 1) (reverse (take (place + 1) table)) (drop (place + 1) table))
  unfolding byte_entries_fault
  bytes_next h =
      let same = list_any-reverse (λ e. eqb e (get_or table place 0)) (take place table) in
      rw (drop-cons table place 0 h, same, add-one, take-suc table place 0 h, reverse-append) refl

  pub bytes_end : length table ≤ place → byte_entries_fault place (reverse (take place table)) (drop place table) ≡ None
  unfolding byte_entries_fault
  bytes_end h = rw (drop_of_length-le table h) refl

pub ruleset bytes_steps = (bytes_next, bytes_end, err_from_is_err_and)
