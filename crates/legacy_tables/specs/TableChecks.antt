-- The indexes and single-byte tables that are accepted, and the first fault of others.
use Rattle.std.specs.Prelude.{◌≡◌, ℕ, ◌+◌, ◌-◌, List, [], ◌∷◌, Option, Some, None, Bool, true}
use Rattle.std.specs.Prelude.{false, not, ◌&&◌, ◌||◌, ◌==◌, nat_le, nat_lt, if◌then◌else◌, length}
use Rattle.std.specs.Option.{option_or}
use Rattle.std.specs.List.{list_any}
use Rattle.std.specs.Int.{is_in_range}
use Rattle.legacy_tables.specs.declared.tables.IndexName.{IndexName}
use Rattle.legacy_tables.specs.declared.tables.IndexName.TheVariants as names
use Rattle.legacy_tables.specs.declared.tables.TableError.{TableError}
use Rattle.legacy_tables.specs.declared.tables.TableError.TheVariants.{TooLong, BadEntry, NotEmpty, KatakanaLength, RangeOrder}
use Rattle.legacy_tables.specs.declared.tables.TableError.TheVariants.{RangeValue, PuaOrder, PuaScalar, PuaBytes, BadByteEntry, Repeated}
use Rattle.legacy_tables.specs.Indexes.{FlatIndexes}

-- ---- entries

-- a scalar of the Basic Multilingual Plane past ASCII
abbrev pub is_narrow_entry : ℕ → Bool
is_narrow_entry entry = is_in_range 0x80 0xD7FF entry || is_in_range 0xE000 0xFFFF entry

-- the entries that an index may have; in Big5 also scalars of the Supplementary Ideographic Plane
abbrev pub is_entry : IndexName → ℕ → Bool
is_entry names.Big5 entry = is_narrow_entry entry || is_in_range 0x2_0000 0x2_FFFF entry
is_entry _ entry = is_narrow_entry entry

-- the pointers that the decoder of the index does not look up
abbrev pub must_be_empty : IndexName → ℕ → Bool
must_be_empty names.Big5 p = (p == 1133 || p == 1135) || (p == 1164 || p == 1166)
must_be_empty names.Jis0208 p = is_in_range 8836 10715 p
must_be_empty _ p = false

-- the fault of an entry that is not 0
abbrev pub entry_fault : IndexName → ℕ → ℕ → Option TableError
entry_fault name p entry =
    if entry == 0 then None
    else if not (is_entry name entry) then Some (BadEntry name p)
    else if must_be_empty name p then Some (NotEmpty name p)
    else None

-- the first fault of entries, the first of which is that of pointer p
unfoldable pub entries_fault : IndexName → ℕ → List ℕ → Option TableError
entries_fault name p [] = None
entries_fault name p (entry ∷ entries) = option_or (entry_fault name p entry) (entries_fault name (p + 1) entries)

-- the first fault of an index of at most `limit` entries
abbrev pub index_fault : IndexName → ℕ → List ℕ → Option TableError
index_fault name limit index =
    if nat_lt limit (length index) then Some (TooLong name) else entries_fault name 0 index

-- the katakana index is empty or has all 63 entries
abbrev pub katakana_fault : List ℕ → Option TableError
katakana_fault index =
    if length index == 0 || length index == 63 then entries_fault names.Katakana 0 index else Some KatakanaLength

-- ---- ranges: each ends before the pointer of the next one, and the last one at 39419

-- the first pointer after a range, given the ranges after it: that of the next range, or 39420
abbrev pub next_pointer : List (ℕ × ℕ) → ℕ
next_pointer [] = 39420
next_pointer (r ∷ ranges) = r.0

-- the range r has a higher pointer than the range before it, if there is one, and higher scalars than all of that range
abbrev pub follows_range : Option (ℕ × ℕ) → ℕ × ℕ → Bool
follows_range None r = true
follows_range (Some before) r = nat_lt before.0 r.0 && nat_le (before.1 + (r.0 - before.0)) r.1

-- the first place of a range that is not in order, counted from `place`
unfoldable pub range_order_fault : ℕ → Option (ℕ × ℕ) → List (ℕ × ℕ) → Option TableError
range_order_fault place before [] = None
range_order_fault place before (r ∷ ranges) =
    if nat_le r.0 39419 && follows_range before r then range_order_fault (place + 1) (Some r) ranges
    else Some (RangeOrder place)

-- the range r, which ends before `end`, has no scalar below U+0080, above U+FFFF or among the surrogates
abbrev pub has_range_scalars : ℕ × ℕ → ℕ → Bool
has_range_scalars r end =
    nat_le 0x80 r.1
    && (nat_le (r.1 + (end - r.0)) 0xD800 || (nat_le 0xE000 r.1 && nat_le (r.1 + (end - r.0)) 0x1_0000))

-- the first place of a range with other scalars, counted from `place`
unfoldable pub range_value_fault : ℕ → List (ℕ × ℕ) → Option TableError
range_value_fault place [] = None
range_value_fault place (r ∷ ranges) =
    if has_range_scalars r (next_pointer ranges) then range_value_fault (place + 1) ranges
    else Some (RangeValue place)

-- ---- private-use rows of gb18030: a scalar, a lead and a trail

-- the scalar is above that of the row before, if there is one
abbrev pub follows_scalar : Option ℕ → ℕ → Bool
follows_scalar None c = true
follows_scalar (Some before) c = nat_lt before c

-- a private-use scalar that a row may have; U+E5E5 has no bytes in gb18030
abbrev pub is_row_scalar : ℕ → Bool
is_row_scalar c = is_in_range 0xE000 0xF8FF c && not (c == 0xE5E5)

-- a lead and a trail of a two-byte sequence
abbrev pub are_row_bytes : ℕ → ℕ → Bool
are_row_bytes lead trail =
    is_in_range 0x81 0xFE lead && (is_in_range 0x40 0x7E trail || is_in_range 0x80 0xFE trail)

-- the fault of a row, given the scalar before it
abbrev pub row_fault : ℕ → Option ℕ → ℕ × ℕ × ℕ → Option TableError
row_fault place before r =
    if not (follows_scalar before r.0) then Some (PuaOrder place)
    else if not (is_row_scalar r.0) then Some (PuaScalar place)
    else if not (are_row_bytes r.1 r.2) then Some (PuaBytes place)
    else None

-- the first fault of rows from `place` on, given the scalar before them
unfoldable pub rows_fault : ℕ → Option ℕ → List (ℕ × ℕ × ℕ) → Option TableError
rows_fault place before [] = None
rows_fault place before (r ∷ rows) = option_or (row_fault place before r) (rows_fault (place + 1) (Some r.0) rows)

-- ---- all indexes

-- the first fault, in the order of the fields
unfoldable pub table_fault : FlatIndexes → Option TableError
table_fault flat =
    option_or (index_fault names.Big5 19782 flat.big5)
    (option_or (index_fault names.EucKr 23940 flat.euc_kr)
    (option_or (index_fault names.Jis0208 11280 flat.jis0208)
    (option_or (index_fault names.Jis0212 8836 flat.jis0212)
    (option_or (index_fault names.Gb18030 23940 flat.gb18030)
    (option_or (katakana_fault flat.katakana)
    (option_or (range_order_fault 0 None flat.ranges)
    (option_or (range_value_fault 0 flat.ranges)
    (rows_fault 0 None flat.gb18030_pua))))))))

-- the indexes are accepted
abbrev pub AreAccepted : FlatIndexes → Type 0
AreAccepted flat = table_fault flat ≡ None

-- ---- single-byte tables

-- an entry of at least 0x80 that is no surrogate and not U+FFFD
abbrev pub is_byte_entry : ℕ → Bool
is_byte_entry entry = is_narrow_entry entry && not (entry == 0xFFFD)

-- the fault of an entry, given the entries before it
abbrev pub byte_entry_fault : ℕ → List ℕ → ℕ → Option TableError
byte_entry_fault place before entry =
    if entry == 0 then None
    else if not (is_byte_entry entry) then Some (BadByteEntry place)
    else if list_any (λ e. e == entry) before then Some (Repeated place)
    else None

-- the first fault of entries from `place` on, given the entries before them
unfoldable pub byte_entries_fault : ℕ → List ℕ → List ℕ → Option TableError
byte_entries_fault place before [] = None
byte_entries_fault place before (entry ∷ entries) =
    option_or (byte_entry_fault place before entry) (byte_entries_fault (place + 1) (entry ∷ before) entries)

-- the first fault of a table
abbrev pub single_byte_fault : List ℕ → Option TableError
single_byte_fault table = byte_entries_fault 0 [] table

-- the table is accepted
abbrev pub IsAcceptedTable : List ℕ → Type 0
IsAcceptedTable table = single_byte_fault table ≡ None
