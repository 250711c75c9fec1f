-- A walk over the pointers of index gb18030 lists the codes of the scalars that have the code of their pointer. The
-- other scalars of gb18030 and GBK are looked up one by one.
use Rattle.std.proofs.{Common.{◌≡◌, ℕ, ◌<◌, List, [], ◌∷◌, None, Some, Bool, false, refl, arith}, lemmas.Bool.le-ltb}
use Rattle.legacy_tables.{specs.{Indexes.{FlatIndexes, gb18030_pua_of}, Pointers.range_pointer_of, TableChecks.AreAccepted}, proofs.Accepted.gb18030-scalars}
use Rattle.{legacy_tables.proofs.PointerBounds.{gb18030-bound, range-bound}, legacy_base.specs.Gb18030.{gb18030_code, gbk_code}}
use Rattle.legacy_encoder_engine.proofs.{CachedPairs.{outside-one, outside-first}, WalkedPairs.{GoesByPointers, halves}}
use Rattle.legacy_chinese.specs.{Gb18030Codec.gb18030_codec, Gb18030List.{GoesByPointer, is_in_rows, gb18030_mark}}
use Rattle.legacy_tables.specs.declared.tables.packed.PackedPart.TheVariants as parts

no-row : (rows : List (ℕ × ℕ × ℕ)) (c : ℕ) → is_in_rows rows c ≡ false → gb18030_pua_of rows c ≡ None
no-row [] c e = refl
no-row (r ∷ rows) c e = grind (arith, no-row rows c)

pub goes-by-pointers : (flat : FlatIndexes) → AreAccepted flat → (extended : Bool)
    → GoesByPointers (gb18030_codec flat extended) parts.Gb18030Order gb18030_mark flat.gb18030 (GoesByPointer flat.gb18030_pua)
unfolding gb18030_code gbk_code
goes-by-pointers flat accepted extended =
    grind (arith, gb18030-scalars, outside-first, le-ltb, outside-one, no-row, gb18030-bound flat accepted, halves)

-- a scalar's pointer of four bytes is below their number
pub pointer_bound : (ranges : List (ℕ × ℕ)) (c p : ℕ) → range_pointer_of ranges c ≡ Some p → p < 1237576
pointer_bound ranges c p e = rw e at (range-bound c ranges)
