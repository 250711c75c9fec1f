-- The events of encoding, and those of a text in the codecs without modes.
use Rattle.std.specs.Prelude.{ℕ, ◌+◌, List, [], ◌∷◌, ◌++◌, map, length, Option, Some, None}
use Rattle.legacy_base.specs.declared.results.EncodeEvent.{EncodeEvent}
use Rattle.legacy_base.specs.declared.results.EncodeEvent.TheVariants.{Byte, Unmappable}

-- the events of a scalar by its code: its bytes, or the report that it is unmappable
abbrev pub code_events : ℕ → Option (List ℕ) → List EncodeEvent
code_events c None = Unmappable c ∷ []
code_events c (Some bytes) = map Byte bytes

-- the number of bytes of a code, or 0 if there is none
abbrev pub code_length : Option (List ℕ) → ℕ
code_length None = 0
code_length (Some bytes) = length bytes

-- the events of a list of scalars
unfoldable pub plain_events : (ℕ → Option (List ℕ)) → List ℕ → List EncodeEvent
plain_events code [] = []
plain_events code (c ∷ scalars) = code_events c (code c) ++ plain_events code scalars

-- the number of bytes among the events
unfoldable pub byte_count : List EncodeEvent → ℕ
byte_count [] = 0
byte_count (Byte b ∷ events) = byte_count events + 1
byte_count (Unmappable c ∷ events) = byte_count events
