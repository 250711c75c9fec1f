-- UTF-16 as fronts of a list of bytes. They give the same events as `utf16_events`, which reads units.
use Rattle.std.specs.{Prelude.{ℕ, List, [], ◌∷◌, Bool, ◌&&◌, ◌||◌, if◌then◌else◌}, Char.Utf16.{is_high_surrogate, is_low_surrogate, surrogate_pair_char}}
use Rattle.legacy_base.specs.{Fronts.{Front, reads, malformed}, Utf16.unit_of}

-- the front of a unit alone
abbrev pub single_unit_front : ℕ → Front
single_unit_front u = if is_high_surrogate u || is_low_surrogate u then malformed 2 else reads 2 (u ∷ [])

-- the front that begins with a unit
abbrev pub unit_front : Bool → ℕ → List ℕ → Front
unit_front big_endian u [] = single_unit_front u
unit_front big_endian u (c ∷ []) = if is_high_surrogate u then malformed 3 else single_unit_front u
unit_front big_endian u (c ∷ d ∷ rest) =
    if is_high_surrogate u && is_low_surrogate (unit_of big_endian c d)
    then reads 4 (surrogate_pair_char u (unit_of big_endian c d) ∷ [])
    else single_unit_front u

-- the front of a list that begins with the byte a
unfoldable pub utf16_front : Bool → ℕ → List ℕ → Front
utf16_front big_endian a [] = malformed 1
utf16_front big_endian a (b ∷ rest) = unit_front big_endian (unit_of big_endian a b) rest
