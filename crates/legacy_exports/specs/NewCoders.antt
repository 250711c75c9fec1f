-- What holds from the state of a new coder on.
use Rattle.std.specs.Prelude.{◌≡◌, ℕ, List, map, Option, Some}
use Rattle.legacy_tables.specs.Indexes.{FlatIndexes}
use Rattle.legacy_index_files.specs.declared.codec.Codec.{Codec}
use Rattle.legacy_exports.specs.Numbers.{number_of}
use Rattle.legacy_exports.specs.AcceptedIndexes.{AreTablesOfSlices, range_pair}
use Rattle.legacy_exports.specs.declared.indexes.IndexSlices.{IndexSlices}

-- the states of new coders, by codec, lists, and entries of a single-byte encoding: `decoder_of` or `encoder_of`
abbrev pub NewStates : Type 0 → Type 0
NewStates State = Codec → FlatIndexes → Option (List ℕ) → Option State

-- the fact holds of a new coder of the codec over these lists
pub record HoldsOfNew {State : Type 0} (coder_of : NewStates State) (codec : Codec) (lists : FlatIndexes) (entries : Option (List ℕ))
    (Fact : State → Type 0) : Type 0 where
  pub new : State
  pub begins : coder_of codec lists entries ≡ Some new
  pub holds : Fact new

-- the same over tables of the caller's indexes
pub record HoldsOverTables {State : Type 0} (coder_of : NewStates State) (codec : Codec) (slices : IndexSlices) (Fact : State → Type 0) : Type 0 where
  pub lists : FlatIndexes
  pub tables : AreTablesOfSlices slices (map range_pair slices.ranges.now) lists
  pub holds : HoldsOfNew coder_of codec lists (Some slices.single_byte.now) Fact

-- the same for the codec of a number
pub record HoldsByNumber {State : Type 0} (coder_of : NewStates State) (number : ℕ) (slices : IndexSlices) (Fact : State → Type 0) : Type 0 where
  pub codec : Codec
  pub named : number_of codec ≡ number
  pub holds : HoldsOverTables coder_of codec slices Fact
