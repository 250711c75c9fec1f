use Rattle.std.proofs.Common.{◌≡◌, ◌+◌, drop, sum}
use Rattle.legacy_codecs.proofs.shared_by_runs.event_capacity.Given as goal

abbrev pub invariant-loop-length : goal.invariant-loop-length
invariant-loop-length l = l.total + sum (drop l.length-index l.lengths) ≡ sum l.lengths
