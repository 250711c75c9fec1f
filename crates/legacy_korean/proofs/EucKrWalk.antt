-- A walk over the pointers of index EUC-KR lists the codes of all scalars from U+0080 on.
use Rattle.{std.proofs.{Common.{◌+◌, ◌/◌, ◌≤◌, refl, arith}, lemmas.Bool.le-ltb}, legacy_tables.specs.AcceptedTables.AcceptedIndexes}
use Rattle.{legacy_tables.proofs.{Accepted.euc_kr-scalars, PointerBounds.euc-kr-bound}, legacy_base.specs.{EucKr.{euc_kr_code, euc_kr_bytes}, Encoders.euc_kr}}
use Rattle.{legacy_encoder_engine.proofs.WalkedPairs.{GoesByPointers, by-pairs, halves}, legacy_korean.specs.EucKrCodes.{euc_kr_mark, euc_kr_mark-some}}
use Rattle.legacy_tables.specs.declared.tables.packed.PackedPart.TheVariants as parts

pub goes-by-pointers : (tables : AcceptedIndexes) → GoesByPointers (euc_kr tables.flat.euc_kr) parts.EucKrOrder euc_kr_mark tables.flat.euc_kr (λ c. 0x80 ≤ c)
unfolding euc_kr_code
goes-by-pointers tables =
    by-pairs _ _ _ _ (λ c. 0x80 ≤ c) euc_kr_bytes 23940 (euc_kr-scalars tables.flat tables.accepted) euc_kr_mark-some (λ c h. h)
    (euc-kr-bound tables.flat tables.accepted) (λ p h. halves (p / 190 + 0x81) _ (omega arith)) (λ c h. rw (le-ltb c 128 h) refl)
