-- The Standard's "gb18030 encoder"; if is GBK is true, the "GBK encoder".
use Rattle.std.specs.Prelude.{ℕ, ◌+◌, ◌*◌, ◌/◌, ◌%◌, ◌==◌, ◌&&◌, nat_lt, Bool, List, [], ◌∷◌, Option, Some, None, if◌then◌else◌}
use Rattle.std.specs.Char.{is_ascii}
use Rattle.legacy_tables.specs.Indexes.{gb18030_pua_of}
use Rattle.legacy_tables.specs.Pointers.{index_pointer_of}
use Rattle.legacy_standard.specs.TextQueue.{TextOutcome, bytes, error_with}
use Rattle.legacy_standard.specs.RangesPointer.{ranges_pointer}

-- the Standard's table of private-use scalars and their two bytes
abbrev pub private_use_rows : List (ℕ × ℕ × ℕ)
private_use_rows =
    (0xE78D, 0xA6, 0xD9) ∷ (0xE78E, 0xA6, 0xDA) ∷ (0xE78F, 0xA6, 0xDB) ∷ (0xE790, 0xA6, 0xDC) ∷ (0xE791, 0xA6, 0xDD) ∷ (0xE792, 0xA6, 0xDE)
    ∷ (0xE793, 0xA6, 0xDF) ∷ (0xE794, 0xA6, 0xEC) ∷ (0xE795, 0xA6, 0xED) ∷ (0xE796, 0xA6, 0xF3) ∷ (0xE81E, 0xFE, 0x59) ∷ (0xE826, 0xFE, 0x61)
    ∷ (0xE82B, 0xFE, 0x66) ∷ (0xE82C, 0xFE, 0x67) ∷ (0xE832, 0xFE, 0x6D) ∷ (0xE843, 0xFE, 0x7E) ∷ (0xE854, 0xFE, 0x90) ∷ (0xE864, 0xFE, 0xA0) ∷ []

-- the steps after the index gb18030 ranges pointer is known
abbrev pub gb18030_range_at : Option ℕ → ℕ → TextOutcome
gb18030_range_at None c = error_with c
gb18030_range_at (Some pointer) c =
    let byte1 : ℕ = pointer / (10 * 126 * 10) in
    let pointer2 : ℕ = pointer % (10 * 126 * 10) in
    let byte2 : ℕ = pointer2 / (10 * 126) in
    let pointer3 : ℕ = pointer2 % (10 * 126) in
    let byte3 : ℕ = pointer3 / 10 in
    let byte4 : ℕ = pointer3 % 10 in
    bytes ((byte1 + 0x81) ∷ (byte2 + 0x30) ∷ (byte3 + 0x81) ∷ (byte4 + 0x30) ∷ [])

-- the steps after the index pointer is known
abbrev pub gb18030_at : Bool → List (ℕ × ℕ) → Option ℕ → ℕ → TextOutcome
gb18030_at is_gbk ranges (Some pointer) c =
    let leading : ℕ = pointer / 190 + 0x81 in
    let trailing : ℕ = pointer % 190 in
    let offset : ℕ = if nat_lt trailing 0x3F then 0x40 else 0x41 in
    bytes (leading ∷ (trailing + offset) ∷ [])
gb18030_at is_gbk ranges None c = if is_gbk then error_with c else gb18030_range_at (ranges_pointer ranges c) c

-- the steps after the row in the table of private-use scalars is known
abbrev pub gb18030_row : Bool → List ℕ → List (ℕ × ℕ) → Option (ℕ × ℕ) → ℕ → TextOutcome
gb18030_row is_gbk index ranges (Some row) c = bytes (row.0 ∷ row.1 ∷ [])
gb18030_row is_gbk index ranges None c = gb18030_at is_gbk ranges (index_pointer_of index c) c

-- The result of the "gb18030 encoder" for a code point, by is GBK, index gb18030, index gb18030 ranges and the table of
-- private-use scalars.
unfoldable pub gb18030_encodes : (is_gbk : Bool) → List ℕ → List (ℕ × ℕ) → List (ℕ × ℕ × ℕ) → ℕ → TextOutcome
gb18030_encodes is_gbk index ranges pua c =
    if is_ascii c then bytes (c ∷ [])
    else if c == 0xE5E5 then error_with c
    else if is_gbk && c == 0x20AC then bytes (0x80 ∷ [])
    else gb18030_row is_gbk index ranges (gb18030_pua_of pua c) c
