-- Indexes as runs of pointers, and the scalars that runs give.
use Rattle.std.specs.Prelude.{ℕ, ◌+◌, ◌-◌, List, [], ◌∷◌, Option, Some, None, Bool, ◌&&◌}
use Rattle.std.specs.Prelude.{nat_le, nat_lt, if◌then◌else◌, length, map, max, slice_index_or}
use Rattle.std.specs.Option.{option_or, option_map_or}
use Rattle.std.specs.List.{range_with_len}
use Rattle.legacy_tables.specs.declared.tables.packed.Run.{Run}

-- the run at a place
abbrev pub run_at : List Run → ℕ → Run
run_at runs n = slice_index_or runs n (record { pointer = 0; scalar = 0; length = 0 })

-- the pointer after a run
abbrev pub run_end : Run → ℕ
run_end run = run.pointer + run.length

-- the scalar that a run gives pointer p
abbrev pub run_scalar : Run → ℕ → Option ℕ
run_scalar run p =
    if nat_le run.pointer p && nat_lt p (run_end run)
    then Some (run.scalar + (p - run.pointer))
    else None

-- the scalar that runs give pointer p
abbrev pub runs_scalar : List Run → ℕ → Option ℕ
runs_scalar [] p = None
runs_scalar (run ∷ runs) p = option_or (run_scalar run p) (runs_scalar runs p)

-- the entry of pointer p in the flat list, with 0 for no scalar
abbrev pub runs_entry : List Run → ℕ → ℕ
runs_entry runs p = option_map_or (λ c. c) (runs_scalar runs p) 0

-- the pointer after all runs
abbrev pub runs_end : List Run → ℕ
runs_end [] = 0
runs_end (run ∷ runs) = max (run_end run) (runs_end runs)

-- the flat list that runs give
unfoldable pub runs_list : List Run → List ℕ
runs_list runs = map (runs_entry runs) (range_with_len 0 (runs_end runs))

-- A run has at least one pointer, begins at or after the end of the run before it, and ends within the limit. Its
-- numbers are at most U+10FFFF.
abbrev pub is_run_in_order : ℕ → ℕ → Run → Bool
is_run_in_order before limit run =
    (nat_lt 0 run.length && nat_le before run.pointer)
    && (nat_le (run_end run) limit && nat_le (run.scalar + run.length) 0x11_0000)

-- the first place of a run that is not in order, counted from `place`
unfoldable pub run_fault_from : ℕ → ℕ → ℕ → List Run → Option ℕ
run_fault_from place before limit [] = None
run_fault_from place before limit (run ∷ runs) =
    if is_run_in_order before limit run
    then run_fault_from (place + 1) (run_end run) limit runs
    else Some place

-- the first place of a run that is not in order
abbrev pub run_fault : ℕ → List Run → Option ℕ
run_fault limit runs = run_fault_from 0 0 limit runs
