-- The texts of index files, one for each index that has a file.
use Rattle.std.specs.Prelude.{ℕ, List, [], Option, Some, Bool, true, false, if◌then◌else◌}
use Rattle.legacy_index_files.specs.declared.index_file.FileIndex.{FileIndex}
use Rattle.legacy_index_files.specs.declared.index_file.FileIndex.TheVariants.{Big5, EucKr, Jis0208, Jis0212, Gb18030, Ranges, SingleByte}

-- the optional index is this one
abbrev pub is_index : Option FileIndex → FileIndex → Bool
is_index (Some Big5) Big5 = true
is_index (Some EucKr) EucKr = true
is_index (Some Jis0208) Jis0208 = true
is_index (Some Jis0212) Jis0212 = true
is_index (Some Gb18030) Gb18030 = true
is_index (Some Ranges) Ranges = true
is_index (Some SingleByte) SingleByte = true
is_index _ _ = false

-- the texts before any file is read
abbrev pub no_text : FileIndex → List ℕ
no_text name = []

-- the texts with the one of an index replaced
abbrev pub with_text : (FileIndex → List ℕ) → FileIndex → List ℕ → FileIndex → List ℕ
with_text texts name text other = if is_index (Some name) other then text else texts other
