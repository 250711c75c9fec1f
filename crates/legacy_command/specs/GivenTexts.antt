-- The texts of the index files that the command line names.
use Rattle.std.specs.Prelude.{◌≡◌, ◌⊎◌, ℕ, List, [], ◌∷◌, map, Option, Some, None, if◌then◌else◌}
use Rattle.std.specs.Option.{option_map}
use Rattle.std.specs.Borrow.{Bor}
use Rattle.legacy_index_files.specs.declared.index_file.FileIndex.{FileIndex}
use Rattle.legacy_index_files.specs.IndexLine.{lines}
use Rattle.legacy_index_files.specs.IndexTable.{first_malformed}
use Rattle.legacy_index_files.specs.IndexTexts.{is_index}
use Rattle.legacy_command.specs.declared.program.Fault.{Fault}
use Rattle.legacy_command.specs.declared.program.Fault.TheVariants.{Unread, Line}
use Rattle.legacy_command.specs.Words.{index_named}

-- the contents of each file, or `None` if it cannot be read
abbrev pub contents_of : List (Option (Bor (List ℕ))) → List (Option (List ℕ))
contents_of files = map (option_map (λ file. file.now)) files

-- The text of each index, if the words are INDEX and FILE any number of times and the files are those. It is the text
-- of the index's file, and empty if the words do not name the index.
abbrev pub text_given : List (List ℕ) → List (Option (List ℕ)) → FileIndex → List ℕ
text_given (index ∷ file ∷ words) (Some text ∷ files) name =
    if is_index (index_named index) name then text else text_given words files name
text_given _ _ name = []

-- the word names an index, and each line of the text has the form of its file
abbrev pub IsWellFormed : Option FileIndex → List ℕ → Type 0
IsWellFormed None text = ⊥
IsWellFormed (Some name) text = first_malformed name 1 (lines text) ≡ None

-- Each FILE could be read and has no malformed line, if the words are INDEX and FILE any number of times and the files
-- are those.
abbrev pub AreWellFormed : List (List ℕ) → List (Option (List ℕ)) → Type 0
AreWellFormed (index ∷ file ∷ words) (Some text ∷ files) = IsWellFormed (index_named index) text × AreWellFormed words files
AreWellFormed (index ∷ file ∷ words) _ = ⊥
AreWellFormed _ files = Unit {0}

-- the fault says that the file of this name cannot be read
abbrev pub IsUnread : List ℕ → Fault → Type 0
IsUnread file (Unread name) = name.now ≡ file
IsUnread file _ = ⊥

-- the fault gives the name of the file, and the first line of its text that is malformed for the index
abbrev pub IsLine : Option FileIndex → List ℕ → List ℕ → Fault → Type 0
IsLine (Some index) file text (Line name n) = (name.now ≡ file) × (first_malformed index 1 (lines text) ≡ Some n)
IsLine _ file text _ = ⊥

-- The fault is that of the first FILE that cannot be read or has a malformed line, if the words are INDEX and FILE any
-- number of times and the files are those.
abbrev pub IsFirstFault : List (List ℕ) → List (Option (List ℕ)) → Fault → Type 0
IsFirstFault (index ∷ file ∷ words) (Some text ∷ files) fault =
    IsLine (index_named index) file text fault ⊎ (IsWellFormed (index_named index) text × IsFirstFault words files fault)
IsFirstFault (index ∷ file ∷ words) _ fault = IsUnread file fault
IsFirstFault _ files fault = ⊥
