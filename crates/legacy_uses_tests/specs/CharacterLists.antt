-- The contents of a list of characters as a destination.
use Rattle.std.specs.Prelude.{ℕ, List, take}
use Rattle.std.specs.Borrow.{GName}
use Rattle.legacy_text.specs.EncodingForm.{Utf16, all_code_units}
use Rattle.legacy_uses_tests.specs.declared.character_list.CharacterList.{CharacterList}

-- the scalars that were kept
abbrev pub listed_scalars : CharacterList → List ℕ
listed_scalars d = take d.count d.characters.now

-- their number
abbrev pub listed_count : CharacterList → ℕ
listed_count d = d.count

-- their code units in UTF-16
abbrev pub listed_units : CharacterList → List ℕ
listed_units d = all_code_units Utf16 (listed_scalars d)

-- the number of free code units
abbrev pub listed_room : CharacterList → ℕ
listed_room d = d.room

-- the name of the loan of the slice
abbrev pub listed_loan : CharacterList → GName
listed_loan d = d.characters.ghost_name
