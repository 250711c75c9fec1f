use Rattle.std.proofs.Common.{◌≡◌, ◌∙◌, Result, Ok, Err, Some, sym}
use Rattle.std.specs.Result.{MatchResult}
use Rattle.legacy_tables.specs.{declared.tables.packed.Packed.Packed, declared.tables.TableError.TableError, declared.tables.Tables.Tables, Indexes.FlatIndexes}
use Rattle.legacy_tables.specs.{TableChecks.table_fault, Packed.{packed_fault, ArePackedTables}}
use Rattle.legacy_index_files.specs.{declared.packing.OwnedPacked.OwnedPacked, OwnedIndexes.owned_lists, Packing.{HasParts, IsPackOf, AreTablesOf}}
use Rattle.legacy_index_files.proofs.packed_indexes.PackedIndexes.tables.Goals as goal

module _ {T : Type 0} (lists : T → FlatIndexes) (flat : FlatIndexes) (owned : OwnedPacked) (packed : Packed) (has : HasParts owned packed)
    (made : IsPackOf flat owned) where
  answered : (r : Result T TableError) → MatchResult r (λ t. ArePackedTables flat packed (lists t)) (λ fault. packed_fault flat packed ≡ Some fault) →
      MatchResult r (λ t. AreTablesOf flat owned (lists t)) (λ fault. table_fault flat ≡ Some fault)
  answered (Ok t) h = record { packed = packed; parts = has; tables = h }
  answered (Err fault) h = sym (made.faults packed has) ∙ h

pub returns : goal.returns
returns c =
    let owned = c.args.self.now in
    answered (λ (t : Tables). t.flat) (owned_lists owned.indexes) owned.parts c.packed.result c.packed.ensures owned.made c.packed_of.result
    (rw c.indexes.ensures at c.packed_of.ensures)
