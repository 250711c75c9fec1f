-- What is known of a set of indexes into which only index EUC-KR was read of a file.
use Rattle.std.proofs.Common.{◌≡◌, ◌↔◌, ℕ, List, [], ◌∷◌, length, Some, None, Result, Ok, Err, refl, arith}
use Rattle.legacy_base.specs.{EucKr.euc_kr, Lengths.{query_answer, to_utf8}, States.{DecoderState, new_state}}
use Rattle.legacy_index_files.specs.{declared.index_file.EncoderIndex.TheVariants.Of, declared.index_file.IndexFileError.IndexFileError}
use Rattle.legacy_index_files.specs.{declared.index_file.FileIndex.TheVariants.EucKr, declared.index_file.FileTable.FileTable}
use Rattle.legacy_index_files.specs.{declared.index_file.FileTable.TheVariants.Narrow, declared.owned_indexes.OwnedIndexes.OwnedIndexes}
use Rattle.legacy_index_files.specs.{IndexLine.lines, IndexTable.{entries_of, first_malformed, IsTableOf, IsIndexOf}, IndexTexts.no_text}
use Rattle.legacy_index_files.specs.OwnedIndexes.{HoldsFile, HoldsTexts, with_table, owned_lists}
use Rattle.legacy_index_files.proofs.WellFormed.{well_formed_ok, well_formed_memory}
use Rattle.legacy_encodings.specs.declared.registry.RegistryError.TheVariants.{File, Sized}
use Rattle.legacy_codecs.specs.{declared.whole.SizedError.SizedError, declared.whole.SizedError.TheVariants.{TooLong, Memory}}
use Rattle.legacy_uses.specs.IndexData.{IsEucKrFile, IsEucKrIndex, IsFaultByFile, only_euc_kr}
use Rattle.legacy_index_files.specs.declared.index_file.IndexFileError.TheVariants as reading

empty : (l : List ℕ) → IsIndexOf [] l → l ≡ []
empty [] is = refl
empty (x ∷ l) is = let none = is.len in absurd (omega arith)

-- a set into which nothing but an index EUC-KR was read
pub record HoldsEucKr (text : List ℕ) (owned : OwnedIndexes) : Type 0 where
  pub of_file : IsEucKrFile text owned.euc_kr.items
  pub only : owned_lists owned ≡ only_euc_kr owned.euc_kr.items

-- by a file without a malformed line
pub holds_well_formed : {text : List ℕ} {before after : OwnedIndexes} → HoldsTexts no_text before → before.katakana.items ≡ [] →
    first_malformed EucKr 1 (lines text) ≡ None → HoldsFile EucKr text before after → HoldsEucKr text after
holds_well_formed {text = text} {before = before} {after = after} none katakana well_formed read =
    go read.table read.is_table read.place
  where
    go : (table : FileTable) → IsTableOf EucKr (entries_of EucKr (lines text)) table → after ≡ with_table before EucKr table → HoldsEucKr text after
    go (Narrow values) is place =
        rw place
        (record {
          of_file = record { well_formed = well_formed; says = is };
          only = grind (arith, empty, none.big5, none.jis0208, none.jis0212, none.gb18030, none.ranges);
        })
    go _ is place = absurd is

pub holds_euc_kr : {T : Type 0} {text : List ℕ} {before after : OwnedIndexes} {result : Result T IndexFileError} {table : T} → HoldsTexts no_text before →
    before.katakana.items ≡ [] → HoldsFile EucKr text before after →
    ((n : ℕ) → (result ≡ Err (reading.Line n)) ↔ (first_malformed EucKr 1 (lines text) ≡ Some n)) → result ≡ Ok table → HoldsEucKr text after
holds_euc_kr {text = text} {result = result} {table = table} none katakana read line ok =
    holds_well_formed none katakana (well_formed_ok (Of EucKr) text result line table ok) read

-- why the file was not read
pub euc_kr_fault_of : {T : Type 0} (text input : List ℕ) (result : Result T IndexFileError)
    (line : (n : ℕ) → (result ≡ Err (reading.Line n)) ↔ (first_malformed EucKr 1 (lines text) ≡ Some n)) →
    (error : IndexFileError) → result ≡ Err error → IsFaultByFile text input (File error)
euc_kr_fault_of text input result line (reading.Line n) e = (line n).0 e
euc_kr_fault_of text input result line reading.Memory e = well_formed_memory (Of EucKr) text result line e

-- why an input was not decoded by it
pub not_decoded_by_file : {T : Type 0} (text input index : List ℕ) → IsEucKrIndex text index → (state : DecoderState) → state ≡ new_state (euc_kr index) →
    (result : Result T SizedError) → ((result ≡ Err TooLong) ↔ (query_answer to_utf8 state (length input) ≡ None)) →
    (error : SizedError) → result ≡ Err error → IsFaultByFile text input (Sized error)
not_decoded_by_file text input index is state same result long TooLong e = record { index = index; is_index = is; too_long = rw same at (long.0 e) }
not_decoded_by_file text input index is state same result long Memory e = (index, is, λ h. let other = long.1 (rw same h) in cc)
