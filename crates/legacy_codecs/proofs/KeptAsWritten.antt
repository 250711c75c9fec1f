-- What an output that keeps scalars has kept.
use Rattle.std.proofs.Common.{◌≡◌, ◌∙◌, ℕ, ◌≤◌, List, [], ◌++◌, length, ap, arith, All}
use Rattle.std.specs.Char.{IsScalar}
use Rattle.legacy_text.specs.EncodingForm.{EncodingForm, all_code_units, total_unit_count}
use Rattle.legacy_base.proofs.SameUnits.{all_units_same, length-le-all_code_units}

-- the kept scalars are the written ones
pub kept_is : (form : EncodingForm) (kept scalars before : List ℕ) → before ≡ [] → All IsScalar kept → All IsScalar scalars →
    all_code_units form kept ≡ all_code_units form before ++ all_code_units form scalars → kept ≡ scalars
kept_is form kept scalars before z p q e = all_units_same form kept scalars p q (e ∙ ap (λ l. all_code_units form l ++ all_code_units form scalars) z)

-- at most as many scalars were kept as code units were free
pub kept_within : (form : EncodingForm) (kept scalars before : List ℕ) (free : ℕ) → before ≡ [] →
    all_code_units form kept ≡ all_code_units form before ++ all_code_units form scalars → total_unit_count form scalars ≤ free → length kept ≤ free
kept_within form kept scalars before free z e fits = grind (arith, length-le-all_code_units)
