-- The form of two bytes, from the scalar that they give.
use Rattle.std.proofs.Common.{◌≡◌, ℕ, Option, Some, None, refl, arith}
use Rattle.std.specs.Prelude.{MatchOption}
use Rattle.legacy_base.specs.Grammar.{Grammar}
use Rattle.legacy_decoder_engine.specs.{declared.common_forms.CommonForm.TheVariants.{Pair, Other}, ReadAhead.{IsPair, IsCommonForm}}
use Rattle.legacy_decoder_engine.specs.declared.common_forms.CommonForm.{CommonForm}

-- the form that a scalar or none gives is common, if such a scalar is that of the two bytes
pub common_pair : (g : Grammar) (first second : ℕ) (form : CommonForm) (scalar : Option ℕ) → MatchOption scalar (form ≡ Other) (λ c. form ≡ Pair c)
    → ((c : ℕ) → scalar ≡ Some c → IsPair g first second c) → IsCommonForm g first second form
common_pair g first second form None e pair = grind (arith, e)
common_pair g first second form (Some c) e pair = rw e (pair c refl)
