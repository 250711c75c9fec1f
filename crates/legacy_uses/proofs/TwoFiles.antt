-- Two inputs, by a registry that read the index files of EUC-KR and windows-1252.
use Rattle.std.proofs.Common.{◌≡◌, ℕ, List, [], Some, Bool, true, false, codes, refl, subst}
use Rattle.legacy_base.specs.{EucKr.euc_kr, Grammar.single_byte, States.{DecoderState, new_state}}
use Rattle.legacy_tables.specs.{TableChecks.AreAccepted, Indexes.FlatIndexes}
use Rattle.legacy_index_files.specs.{declared.encodings.Encoding.Encoding, declared.index_file.FileIndex.TheVariants.EucKr, Labels.encoding_labelled}
use Rattle.legacy_index_files.specs.declared.index_file.IndexFileError.TheVariants as reading
use Rattle.legacy_encodings.specs.{declared.registry.Coders.Coders, declared.registry.RegistryError.RegistryError, ReadFiles.IsIndexFault}
use Rattle.legacy_encodings.specs.{declared.registry.RegistryError.TheVariants.{File, NoIndex, Sized, Unknown, WrongKind}, SingleByteFiles.IsTableFault}
use Rattle.legacy_encodings.specs.Registries.{can_decode, first_entries, IsDecodeError, IsDecoderOf, IsReadTable, IsText}
use Rattle.legacy_uses.specs.IndexData.{IsEucKrFile, IsEucKrIndex, IsTextByFile, IsFaultByFile, only_euc_kr}
use Rattle.legacy_uses.specs.IndexData.{IsTextBySingleByteFile, IsFaultBySingleByteFile}
use Rattle.legacy_codecs.specs.declared.whole.SizedError.TheVariants.{TooLong, Memory}
use Rattle.legacy_index_files.specs.declared.encodings.Encoding.TheVariants as encoding

known_euc_kr : encoding_labelled (codes "EUC-KR") ≡ Some encoding.EucKr
unfolding encoding_labelled
known_euc_kr = refl

is_euc_kr : (e : Encoding) → encoding_labelled (codes "EUC-KR") ≡ Some e → e ≡ encoding.EucKr
is_euc_kr e h = let known = known_euc_kr in cc

-- why the file of index EUC-KR was not read
pub not_read_by_index : (file input : List ℕ) (error : RegistryError) → IsIndexFault EucKr file error → IsFaultByFile file input error
not_read_by_index file input WrongKind is = absurd cc
not_read_by_index file input (File (reading.Line n)) is = is.1
not_read_by_index file input (File reading.Memory) is = is.1
not_read_by_index file input _ is = absurd is

module _ (coders : Coders) (input file index : List ℕ) (of_file : IsEucKrFile file index) (same : coders.tables.flat ≡ only_euc_kr index)
    (read : coders.read.euc_kr ≡ true) where
  is_index : IsEucKrIndex file index
  is_index = record { of_file = of_file; accepted = subst AreAccepted same coders.tables.accepted }

  euc_kr_state : (state : DecoderState) → IsDecoderOf coders (codes "EUC-KR") state → state ≡ new_state (euc_kr index)
  euc_kr_state state is = let made = rw (is_euc_kr is.encoding is.labelled, same) at is.made in cc

  pub euc_kr_by_file : {replaced : Bool} (text : List ℕ) → IsText coders (codes "EUC-KR") input text replaced → IsTextByFile file input text
  euc_kr_by_file text is =
      let made = euc_kr_state is.state is.decoder in
      record { index = index; is_index = is_index; short = rw made at is.short; decodes = rw made at is.decodes }

  -- why an input in EUC-KR was not decoded
  pub not_decoded_by_euc_kr : (error : RegistryError) → IsDecodeError coders (codes "EUC-KR") input error → IsFaultByFile file input error
  not_decoded_by_euc_kr Unknown is = let none = known_euc_kr in absurd cc
  not_decoded_by_euc_kr NoIndex is = let none = rw (is_euc_kr is.0 is.1, read) at is.2 in absurd cc
  not_decoded_by_euc_kr (Sized TooLong) is =
      record { index = index; is_index = is_index; too_long = rw (euc_kr_state is.state is.decoder) at is.too_long }
  not_decoded_by_euc_kr (Sized Memory) (state, is, short) = (index, is_index, rw (euc_kr_state state is) at short)
  not_decoded_by_euc_kr _ is = absurd is

-- ---- windows-1252

known_windows_1252 : encoding_labelled (codes "windows-1252") ≡ Some encoding.Windows1252
unfolding encoding_labelled
known_windows_1252 = refl

is_windows_1252 : (e : Encoding) → encoding_labelled (codes "windows-1252") ≡ Some e → e ≡ encoding.Windows1252
is_windows_1252 e h = let known = known_windows_1252 in cc

-- why the file was not read
pub not_read_by_table : (file input : List ℕ) (error : RegistryError) → IsTableFault encoding.Windows1252 file error → IsFaultBySingleByteFile file input error
not_read_by_table file input WrongKind is = absurd (is refl)
not_read_by_table file input (Sized TooLong) is = absurd is.1
not_read_by_table file input error is = is.1

module _ (coders : Coders) (file input : List ℕ) (read : IsReadTable encoding.Windows1252 file [] coders.single_bytes.now) where
  windows_1252_state : (state : DecoderState) → IsDecoderOf coders (codes "windows-1252") state → state ≡ new_state (single_byte read.table.table.entries)
  windows_1252_state state is =
      let made = rw (is_windows_1252 is.encoding is.labelled, read.first, read.of) at is.made in cc

  pub windows_1252_by_file : {replaced : Bool} (text : List ℕ) → IsText coders (codes "windows-1252") input text replaced → IsTextBySingleByteFile file input text
  windows_1252_by_file text is =
      let made = windows_1252_state is.state is.decoder in
      record {
        entries = read.table.table.entries;
        of_file = read.of_file;
        accepted = read.table.table.accepted;
        short = rw made at is.short;
        decodes = rw made at is.decodes;
      }

  -- why an input in windows-1252 was not decoded
  pub not_decoded_by_table : (error : RegistryError) → IsDecodeError coders (codes "windows-1252") input error → IsFaultBySingleByteFile file input error
  not_decoded_by_table Unknown is = let none = known_windows_1252 in absurd cc
  not_decoded_by_table NoIndex is =
      let some : first_entries coders.single_bytes.now encoding.Windows1252 ≡ Some read.table.table.entries = rw (read.first, read.of) refl in
      let lacking = subst (λ e. can_decode coders e ≡ false) (is_windows_1252 is.0 is.1) is.2 in
      let none = rw some at lacking in absurd cc
  not_decoded_by_table (Sized TooLong) is = record {
    entries = read.table.table.entries;
    of_file = read.of_file;
    accepted = read.table.table.accepted;
    too_long = rw (windows_1252_state is.state is.decoder) at is.too_long;
  }
  not_decoded_by_table (Sized Memory) is = (read.table.table.entries, read.of_file, read.table.table.accepted)
  not_decoded_by_table _ is = absurd is
