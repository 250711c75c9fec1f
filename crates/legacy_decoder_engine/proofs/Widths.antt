-- The code units of scalars in UTF-8 and UTF-16, and the scalars of indexes.
use Rattle.std.proofs.Common.{◌≡◌, [], ◌∷◌, ℕ, ◌<◌, ◌≤◌, List, get_or, Option, arith, option_to_list}
use Rattle.std.proofs.lemmas.{Bool.{cases_lt, Decides.nat_tests}, List.{Elements.All-get_or, get_or_past}}
use Rattle.{legacy_text.specs.EncodingForm.{EncodingForm, unit_count, bmp_need, wide_need}, legacy_tables.specs.Indexes.idx}
use Rattle.legacy_text.proofs.CodeUnits.{encode_2, length-code_units-ascii, length-code_units-bmp, length-code_units-wide}
use Rattle.legacy_decoder_engine.specs.StepUnits.{units, IsWidth, IsNarrowIndex}

pub width_of : (form : EncodingForm) → IsWidth (unit_count form) (bmp_need form) (wide_need form)
width_of form = grind (arith, length-code_units-ascii, length-code_units-bmp, length-code_units-wide, encode_2, cases_lt)

narrow_entry : (index : List ℕ) (p : ℕ) → IsNarrowIndex index → get_or index p 0 < 0x1_0000
narrow_entry index p h = grind (arith, All-get_or, get_or_past, cases_lt)

module _ (len : ℕ → ℕ) (narrow wide : ℕ) (w : IsWidth len narrow wide) where
  pub idx_units : (index : List ℕ) (p : ℕ) → units len (option_to_list (idx index p)) ≤ wide
  idx_units index p = grind (arith, nat_tests)

  pub narrow_idx_units : (index : List ℕ) (p : ℕ) → IsNarrowIndex index → units len (option_to_list (idx index p)) ≤ narrow
  narrow_idx_units index p h = grind (arith, nat_tests, narrow_entry)

  pub option_units : (o : Option ℕ) → units len (option_to_list o) ≤ wide
  option_units o = grind arith

pub idx_below : (index : List ℕ) (p c : ℕ) → IsNarrowIndex index → option_to_list (idx index p) ≡ c ∷ [] → c < 0x1_0000
idx_below index p c narrow e = grind (arith, nat_tests, narrow_entry)
