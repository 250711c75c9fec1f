-- The result of reading the lines of an index file of the WHATWG Encoding Standard ("Indexes"): the first malformed
-- line, or the table. Index ISO-2022-JP katakana, which only an encoder uses, is no `FileIndex`.
use Rattle.std.specs.Prelude.{◌≡◌, ℕ, ◌+◌, ◌<◌, ◌≤◌, Bool, false, ◌&&◌, List, [], ◌∷◌, Option}
use Rattle.std.specs.Prelude.{Some, None, nat_le, nat_lt, ◌==◌, if◌then◌else◌, length, max, slice_index}
use Rattle.std.specs.Option.{option_or, unwrap_or}
use Rattle.legacy_index_files.specs.declared.index_line.LineKind.{LineKind}
use Rattle.legacy_index_files.specs.declared.index_line.LineKind.TheVariants.{Skipped, Entry, Malformed}
use Rattle.legacy_index_files.specs.declared.index_file.FileIndex.{FileIndex}
use Rattle.legacy_index_files.specs.declared.index_file.FileIndex.TheVariants.{Big5, EucKr, Jis0208, Jis0212, Gb18030, Ranges, SingleByte}
use Rattle.legacy_index_files.specs.declared.index_file.EncoderIndex.{EncoderIndex}
use Rattle.legacy_index_files.specs.declared.index_file.EncoderIndex.TheVariants.{Of, Katakana}
use Rattle.legacy_index_files.specs.declared.index_file.FileTable.{FileTable}
use Rattle.legacy_index_files.specs.declared.index_file.FileTable.TheVariants as table
use Rattle.legacy_index_files.specs.IndexLine.{line_kind}

-- the greatest length of an index; its pointers are less
abbrev pub greatest_length : EncoderIndex → ℕ
greatest_length (Of Big5) = 19782
greatest_length (Of EucKr) = 23940
greatest_length (Of Jis0208) = 11280
greatest_length (Of Jis0212) = 8836
greatest_length (Of Gb18030) = 23940
greatest_length (Of Ranges) = 65536
greatest_length (Of SingleByte) = 128
greatest_length Katakana = 63

-- the greatest value of an index
abbrev pub greatest_value : EncoderIndex → ℕ
greatest_value (Of Big5) = 0x10_FFFF
greatest_value _ = 0xFFFF

-- an entry of the index is skipped: in the ranges, that of the supplementary planes
abbrev pub is_left_out : EncoderIndex → ℕ → ℕ → Bool
is_left_out (Of Ranges) pointer value = pointer == 189000 && value == 0x1_0000
is_left_out _ pointer value = false

-- the kind of a line in a file of the index, by its kind and the ranges of its pointer and value
abbrev pub kind_within : EncoderIndex → LineKind → LineKind
kind_within name Skipped = Skipped
kind_within name Malformed = Malformed
kind_within name (Entry pointer value) =
    if is_left_out name pointer value then Skipped
    else if nat_lt pointer (greatest_length name) && nat_le value (greatest_value name) then Entry pointer value
    else Malformed

-- the kind of a line in a file of the index
abbrev pub says : EncoderIndex → List ℕ → LineKind
says name line = kind_within name (line_kind line)

-- the pointer and value of an entry are in the index's ranges
abbrev pub IsInRange : EncoderIndex → LineKind → Type 0
IsInRange name (Entry pointer value) = (pointer < greatest_length name) × (value ≤ greatest_value name)
IsInRange name _ = Unit {0}

-- ---- the first malformed line

-- the number of the first malformed line, if the first line has the number n
abbrev pub malformed_line : EncoderIndex → ℕ → List (List ℕ) → Option ℕ
malformed_line name n [] = None
malformed_line name n (line ∷ more) =
    elim (says name line) [ Skipped ↦ malformed_line name (n + 1) more | Entry p v ↦ malformed_line name (n + 1) more | Malformed ↦ Some n ]

-- the same for an index that a decoder uses
abbrev pub first_malformed : FileIndex → ℕ → List (List ℕ) → Option ℕ
first_malformed name = malformed_line (Of name)

-- ---- the entries and their table

-- puts the entry of a line, if it has one, before other entries
abbrev pub with_entry : LineKind → List (ℕ × ℕ) → List (ℕ × ℕ)
with_entry (Entry pointer value) entries = (pointer, value) ∷ entries
with_entry _ entries = entries

-- the entries of the lines, in order
abbrev pub file_entries : EncoderIndex → List (List ℕ) → List (ℕ × ℕ)
file_entries name [] = []
file_entries name (line ∷ more) = with_entry (says name line) (file_entries name more)

-- the same for an index that a decoder uses
abbrev pub entries_of : FileIndex → List (List ℕ) → List (ℕ × ℕ)
entries_of name = file_entries (Of name)

-- the length of the table of the entries: one more than the greatest pointer, or 0 without entries
abbrev pub table_length : List (ℕ × ℕ) → ℕ
table_length [] = 0
table_length (entry ∷ entries) = max (entry.0 + 1) (table_length entries)

-- the value of the last entry at pointer p, if there is one
abbrev pub last_value : List (ℕ × ℕ) → ℕ → Option ℕ
last_value [] p = None
last_value (entry ∷ entries) p = option_or (last_value entries p) (if entry.0 == p then Some entry.1 else None)

-- the value of pointer p: that of the last entry for it, or 0 without one
abbrev pub value_at : List (ℕ × ℕ) → ℕ → ℕ
value_at entries p = unwrap_or (last_value entries p) 0

-- the list has the value of each of its pointers
pub record HasValues (entries : List (ℕ × ℕ)) (values : List ℕ) : Type 0 where
  pub at : (p : ℕ) → p < length values → slice_index values p ≡ value_at entries p

-- the list has the values of the entries up to the greatest pointer
pub record IsIndexOf (entries : List (ℕ × ℕ)) (values : List ℕ) : Type 0 where
  pub len : length values ≡ table_length entries
  pub at_each : HasValues entries values

-- the list has the values of the entries for all 128 pointers of a single-byte index
pub record IsSingleByteIndexOf (entries : List (ℕ × ℕ)) (values : List ℕ) : Type 0 where
  pub len : length values ≡ greatest_length (Of SingleByte)
  pub at_each : HasValues entries values

-- the table is the one that the entries of the index give
abbrev pub IsTableOf : FileIndex → List (ℕ × ℕ) → FileTable → Type 0
IsTableOf Big5 entries (table.Wide v) = IsIndexOf entries v.items
IsTableOf EucKr entries (table.Narrow v) = IsIndexOf entries v.items
IsTableOf Jis0208 entries (table.Narrow v) = IsIndexOf entries v.items
IsTableOf Jis0212 entries (table.Narrow v) = IsIndexOf entries v.items
IsTableOf Gb18030 entries (table.Narrow v) = IsIndexOf entries v.items
IsTableOf Ranges entries (table.Ranges v) = v.items ≡ entries
IsTableOf SingleByte entries (table.Bytes values) = IsSingleByteIndexOf entries values
IsTableOf _ _ _ = ⊥
