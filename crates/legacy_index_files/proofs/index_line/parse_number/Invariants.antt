use Rattle.std.proofs.Common.{◌≡◌, ◌+◌, ◌<◌, ◌≤◌, ◌^◌, length}
use Rattle.legacy_index_files.specs.IndexLine.{digits_at, past_digits, number_after}
use Rattle.legacy_index_files.proofs.index_line.parse_number.Given as goal

abbrev pub invariant-loop-first : goal.invariant-loop-first
invariant-loop-first l = record {
  few : l.count ≤ 6;
  small : l.value < 16 ^ l.count;
  count : l.count + length (digits_at l.radix l.rest) ≡ length (digits_at l.radix l.fn.bytes);
  value : number_after l.radix l.value (digits_at l.radix l.rest) ≡ number_after l.radix 0 (digits_at l.radix l.fn.bytes);
  after : past_digits l.radix l.rest ≡ past_digits l.radix l.fn.bytes;
}

abbrev pub decreases-loop-first : goal.decreases-loop-first
decreases-loop-first l = length l.rest
