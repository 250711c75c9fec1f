-- The state of an output that keeps the scalars themselves.
use Rattle.std.specs.Prelude.{ℕ, List, take}
use Rattle.std.specs.Borrow.{GName}
use Rattle.legacy_text.specs.EncodingForm.{EncodingForm, all_code_units}
use Rattle.legacy_codecs.specs.declared.scalar_buffer.ScalarBuffer.{ScalarBuffer}
use Rattle.legacy_codecs.specs.declared.scalar_buffer.OutputForm.{Ghosts}

-- the scalars that were kept
abbrev pub kept_scalars : {F : Type 0} {g : Ghosts F} → ScalarBuffer F g → List ℕ
kept_scalars d = take d.count d.scalars.now

-- their code units
abbrev pub kept_units : {F : Type 0} {g : Ghosts F} → EncodingForm → ScalarBuffer F g → List ℕ
kept_units form d = all_code_units form (kept_scalars d)

-- the number of code units that still fit
abbrev pub free_units : {F : Type 0} {g : Ghosts F} → ScalarBuffer F g → ℕ
free_units d = d.room

-- the name of the loan of the slice
abbrev pub scalars_loan : {F : Type 0} {g : Ghosts F} → ScalarBuffer F g → GName
scalars_loan d = d.scalars.ghost_name

-- the contents of the slice, including what is after the kept scalars
abbrev pub scalars_buffer : {F : Type 0} {g : Ghosts F} → ScalarBuffer F g → List ℕ
scalars_buffer d = d.scalars.now
