use Rattle.std.proofs.Common.{rules}
use Rattle.legacy_index_files.proofs.EmptyIndexes.{empty_index, empty_single_byte}
use Rattle.legacy_index_files.proofs.owned_indexes.OwnedIndexes.new.Goals as goal

pub returns-clause-empty : goal.returns-clause-empty
returns-clause-empty c = record {
  big5 = empty_index _ c.new.ensures.items;
  euc_kr = empty_index _ c.new-2.ensures.items;
  jis0208 = empty_index _ c.new-3.ensures.items;
  jis0212 = empty_index _ c.new-4.ensures.items;
  gb18030 = empty_index _ c.new-5.ensures.items;
  ranges = c.new-7.ensures.items;
  single_byte = empty_single_byte;
}

pub returns-clause-unallocated : goal.returns-clause-unallocated
returns-clause-unallocated c = search rules
