-- Scalars that an index cannot have have no pointer there.
use Rattle.std.proofs.Common.{◌≡◌, ℕ, ◌≤◌, ◌<◌, All, List, Bool, Option, Some, None, refl, arith}
use Rattle.legacy_tables.specs.Pointers.{first_pointer}
use Rattle.legacy_tables.proofs.{PackedAccepted.entry-narrow, Pointers.first-taken}

pub absent : (o : Option ℕ) → ((p : ℕ) → o ≡ Some p → ⊥) → o ≡ None
absent None n = refl
absent (Some p) n = absurd (n p refl)

-- an index of scalars below U+10000 has no pointer of another scalar
pub past-bmp : (may : ℕ → Bool) (index : List ℕ) → All (λ e. e < 0x1_0000) index → (c : ℕ) → 0x1_0000 ≤ c → first_pointer may index c ≡ None
past-bmp may index all c h = absent _ (λ p e.
    let is = (first-taken may index c).chosen p e in let low = entry-narrow index all p in omega (arith, is.1, low))
