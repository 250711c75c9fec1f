-- Scalars past U+FFFF have no pointer in index jis0208.
use Rattle.std.proofs.{Common.{◌≡◌, ℕ, ◌<◌, ◌≤◌, List, Bool, None, arith}, lemmas.Bool.Decides.nat_tests}
use Rattle.legacy_tables.specs.{AcceptedTables.AcceptedIndexes, Pointers.{first_pointer, is_jis0208_pointer, minus_as_hyphen}}
use Rattle.legacy_base.specs.Iso2022Jp.{iso_2022_jp_pointer_of}
use Rattle.{legacy_tables.proofs.Accepted.jis0208-below, legacy_encoder_engine.proofs.AbsentPointers.past-bmp}

folded : (c : ℕ) → 0xFFFF < c → 0x1_0000 ≤ minus_as_hyphen c
folded c h = grind (arith, nat_tests)

pub no-pointer : (may : ℕ → Bool) (tables : AcceptedIndexes) (c : ℕ) → 0xFFFF < c → first_pointer may tables.flat.jis0208 (minus_as_hyphen c) ≡ None
no-pointer may tables c h = past-bmp may _ (jis0208-below tables.flat tables.accepted) (minus_as_hyphen c) (folded c h)

pub no-katakana : (tables : AcceptedIndexes) (katakana : List ℕ) (c : ℕ) → 0xFFFF < c → iso_2022_jp_pointer_of tables.flat.jis0208 katakana c ≡ None
no-katakana tables katakana c h = grind (arith, nat_tests, no-pointer is_jis0208_pointer tables c h)
