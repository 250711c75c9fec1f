-- The pointers of Big5 that give a letter and a combining mark.
use Rattle.std.specs.{Prelude.{◌≡◌, ℕ, ◌<◌, List, [], ◌∷◌}, Char.IsScalar}
use Rattle.legacy_base.specs.Big5.{big5_scalars}
use Rattle.legacy_decoder_engine.specs.declared.forms.Form.{Form, TheVariants.{Marked, Other}}

-- the form of such a pointer: its scalars, whatever the index is; or no form
abbrev pub IsMarkedForm : ℕ → Form → Type 0
IsMarkedForm p (Marked c d) = (c < 0x800) × (d < 0x800) × IsScalar c × IsScalar d × ((index : List ℕ) → big5_scalars index p ≡ c ∷ d ∷ [])
IsMarkedForm p Other = Unit {0}
IsMarkedForm p form = ⊥
