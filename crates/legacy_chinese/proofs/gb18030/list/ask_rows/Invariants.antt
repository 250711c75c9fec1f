use Rattle.{std.proofs.Common.{◌≡◌, ℕ, take, slice_index, true, false}, legacy_chinese.specs.Gb18030List.is_in_rows}
use Rattle.legacy_chinese.proofs.gb18030.list.ask_rows.Given as goal

-- the entries of the rows that were passed are right, and the others are unchanged
abbrev pub invariant-loop-row : goal.invariant-loop-row
invariant-loop-row g l = record {
  inside : (c : ℕ) → is_in_rows (take l.row-index l.fn.rows) c ≡ true → g.E.PairEntries.right l.fn.entries c (slice_index l.pairs c);
  outside : (c : ℕ) → is_in_rows (take l.row-index l.fn.rows) c ≡ false → slice_index l.pairs c ≡ slice_index l.fn.pairs c;
}
