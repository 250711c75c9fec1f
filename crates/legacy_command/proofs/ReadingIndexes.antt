-- What is done by the texts of index files, if it is done by the tables that hold them.
use Rattle.std.proofs.Common.{◌⊎◌, ℕ, List, Option, inl, inr}
use Rattle.legacy_tables.specs.Indexes.{FlatIndexes}
use Rattle.legacy_index_files.specs.{declared.codec.Codec.Codec, declared.index_file.FileIndex.FileIndex, declared.owned_indexes.OwnedIndexes.OwnedIndexes}
use Rattle.legacy_index_files.specs.OwnedIndexes.{HoldsTexts}
use Rattle.legacy_command.specs.Program.{WorksByTables, WorksByTexts}

module _ {State : Type 0} {coder_of : Codec → FlatIndexes → Option (List ℕ) → Option State} {codec : Codec} {texts : FileIndex → List ℕ}
    {tables : OwnedIndexes} {Work : State → Type 0} (holds : HoldsTexts texts tables) where
  pub done_by_texts : WorksByTables coder_of codec tables Work → WorksByTexts coder_of codec texts Work
  done_by_texts by = record { tables = tables; holds = holds; by = by }

  pub stops_by_texts : {Untouched WellFormed : Type 0} → WellFormed → Untouched ⊎ WorksByTables coder_of codec tables Work
      → Untouched ⊎ (WellFormed × WorksByTexts coder_of codec texts Work)
  stops_by_texts well_formed (inl untouched) = inl untouched
  stops_by_texts well_formed (inr by) = inr (well_formed, done_by_texts by)
