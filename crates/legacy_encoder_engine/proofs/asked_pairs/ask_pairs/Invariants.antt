use Rattle.std.proofs.Common.{◌≡◌, ◌<◌, ◌≤◌, ◌-◌, ℕ, slice_index}
use Rattle.legacy_encoder_engine.specs.CachedPairs.{IsOutside}
use Rattle.legacy_encoder_engine.proofs.asked_pairs.ask_pairs.Given as goal

-- the entries of the scalars that were passed are right, and the others are unchanged
abbrev pub invariant-loop-number : goal.invariant-loop-number
invariant-loop-number g l = record {
  from : l.first ≤ l.number;
  to : l.number ≤ l.end;
  inside : (c : ℕ) → l.first ≤ c → c < l.number → g.E.PairEntries.right l.entries c (slice_index l.pairs c);
  outside : (c : ℕ) → IsOutside l.first l.number c → slice_index l.pairs c ≡ slice_index l.fn.pairs c;
}

abbrev pub decreases-loop-number : goal.decreases-loop-number
decreases-loop-number g l = l.end - l.number
