use Rattle.std.proofs.Common.{◌≡◌, ℕ, ◌+◌, ◌-◌, ◌<◌, get_or}
use Rattle.legacy_index_files.proofs.packing.pointer_runs.run_length.Given as goal

-- the scalars that were passed are consecutive
abbrev pub invariant-loop-next : goal.invariant-loop-next
invariant-loop-next g l = (k : ℕ) → k < l.next - l.pointer
    → get_or (g.E.Entry.numbers l.index) (l.pointer + k) 0 ≡ get_or (g.E.Entry.numbers l.index) l.pointer 0 + k
