use Rattle.std.proofs.Common.{◌≡◌, ◌+◌, ◌<◌, ℕ, List, slice_index}
use Rattle.legacy_tables.specs.Walks.{IsFilledBelow}
use Rattle.legacy_tables.proofs.tables.walks.take_row.Given as goal

-- the list has the marks of the row's pointers up to here, if it had those before the row
abbrev pub invariant-loop-at : goal.invariant-loop-at
invariant-loop-at g l =
    (index : List ℕ) → ((k : ℕ) → k < l.fn.row.count → slice_index index (l.fn.row.pointer + k) ≡ l.fn.row.scalar + k) →
    IsFilledBelow l.fn.part g.M.Marks.mark index l.fn.row.pointer l.fn.entries →
    IsFilledBelow l.fn.part g.M.Marks.mark index (l.fn.row.pointer + l.at) l.entries
