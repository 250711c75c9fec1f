-- The source of a beginning, and its limit.
use Rattle.std.specs.Prelude.{ℕ}
use Rattle.legacy_uses_tests.specs.declared.beginning.Beginning.{Beginning}

-- the source in its present state
abbrev pub beginning_of : {S : Type 0} → Beginning S → S
beginning_of b = b.source.now

-- the maximum number of its scalars that it still gives
abbrev pub beginning_most : {S : Type 0} → Beginning S → ℕ
beginning_most b = b.most
