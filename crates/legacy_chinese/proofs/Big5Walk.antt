-- A walk over the pointers of index Big5 lists the codes of all scalars from U+0080 on.
use Rattle.{std.proofs.{Common.{◌+◌, ◌/◌, ◌≤◌, refl, arith}, lemmas.Bool.le-ltb}, legacy_tables.specs.AcceptedTables.AcceptedIndexes}
use Rattle.{legacy_tables.proofs.{Accepted.big5-scalars, PointerBounds.big5-bound}, legacy_base.specs.{Big5.{big5_code, big5_bytes}, Encoders.big5}}
use Rattle.{legacy_encoder_engine.proofs.WalkedPairs.{GoesByPointers, by-pairs, halves}, legacy_chinese.specs.Big5Codes.{big5_mark, big5_mark-some}}
use Rattle.legacy_tables.specs.declared.tables.packed.PackedPart.TheVariants as parts

pub goes-by-pointers : (tables : AcceptedIndexes) → GoesByPointers (big5 tables.flat.big5) parts.Big5Order big5_mark tables.flat.big5 (λ c. 0x80 ≤ c)
unfolding big5_code
goes-by-pointers tables =
    by-pairs _ _ _ _ (λ c. 0x80 ≤ c) big5_bytes 19782 (big5-scalars tables.flat tables.accepted) big5_mark-some (λ c h. h)
    (big5-bound tables.flat tables.accepted) (λ p h. halves (p / 157 + 0x81) _ (omega arith)) (λ c h. rw (le-ltb c 128 h) refl)
