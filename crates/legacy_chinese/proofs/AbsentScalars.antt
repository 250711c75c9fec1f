-- Scalars that the indexes of Big5 and gb18030 cannot have.
use Rattle.std.proofs.{Common.{◌≡◌, ◌⊎◌, ℕ, ◌<◌, ◌≤◌, All, Bool, None, true, inl, inr, arith}, lemmas.Bool.Decides.nat_tests}
use Rattle.legacy_tables.specs.{AcceptedTables.AcceptedIndexes, Indexes.FlatIndexes, TableChecks.{is_entry, AreAccepted}, Pointers.{big5_pointer_of, index_pointer_of, every_pointer}}
use Rattle.legacy_tables.proofs.{Accepted.{parts, all_entries, gb18030-below}, PackedAccepted.entry_all, Pointers.big5-taken}
use Rattle.legacy_encoder_engine.proofs.AbsentPointers.{absent, past-bmp}
use Rattle.legacy_tables.specs.declared.tables.IndexName.TheVariants as names

-- no entry of index Big5 is of the Supplementary Multilingual Plane
abbrev IsOutsidePlane : ℕ → Type 0
IsOutsidePlane e = (e < 0x1_0000) ⊎ (0x2_0000 ≤ e)

allowed : (e : ℕ) → is_entry names.Big5 e ≡ true → IsOutsidePlane e
allowed e h = grind (arith, nat_tests)

big5-entries : (flat : FlatIndexes) → AreAccepted flat → All IsOutsidePlane flat.big5
big5-entries flat accepted = all_entries IsOutsidePlane names.Big5 (inl (omega arith)) allowed 0 flat.big5 (parts flat accepted).big5.1

-- such a scalar has no pointer there
pub big5_absent : (tables : AcceptedIndexes) (c : ℕ) → 0x1_0000 ≤ c → c < 0x2_0000 → big5_pointer_of tables.flat.big5 c ≡ None
big5_absent tables c low high = absent _ (λ p e.
    let is = (big5-taken tables.flat.big5 c).chosen p e in
    let outside = entry_all IsOutsidePlane _ (inl (omega arith)) (big5-entries tables.flat tables.accepted) p in
    grind (arith, is.1, outside))

-- nor has one past U+FFFF in index gb18030
pub gb18030_absent : (tables : AcceptedIndexes) (c : ℕ) → 0x1_0000 ≤ c → index_pointer_of tables.flat.gb18030 c ≡ None
gb18030_absent tables c past = past-bmp every_pointer _ (gb18030-below tables.flat tables.accepted) c past
