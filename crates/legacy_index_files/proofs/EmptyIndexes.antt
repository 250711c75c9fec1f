-- The tables of an index file without lines.
use Rattle.std.proofs.{Common.{◌≡◌, ℕ, List, [], arith, replicate}, lemmas.List.{get_or-replicate, length-replicate}}
use Rattle.legacy_index_files.specs.IndexTable.{IsIndexOf, IsSingleByteIndexOf}

pub empty_index : (values : List ℕ) → values ≡ [] → IsIndexOf [] values
empty_index values e = grind arith

pub empty_single_byte : IsSingleByteIndexOf [] (replicate 128 0)
empty_single_byte = record {
  len = length-replicate {A = ℕ} 128 0;
  at_each = record { at = λ p h. get_or-replicate 128 p 0 0 (omega (arith, length-replicate {A = ℕ} 128 0)) };
}
