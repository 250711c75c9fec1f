-- The beginnings of lists.
use Rattle.std.specs.Prelude.{◌≡◌, List, ◌++◌}

-- the list begins with these items
abbrev pub BeginsWith : {Item : Type 0} → List Item → List Item → Type 0
BeginsWith {Item} items front = (rest : List Item) × (items ≡ front ++ rest)
