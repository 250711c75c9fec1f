use Rattle.std.proofs.Common.{◌≡◌, ◌-◌, ◌<◌, ◌≤◌, length}
use Rattle.legacy_exports.proofs.source_texts.RefStrText.cut.Given as goal

-- the place is in the text, after its beginning if there is some text, and at its end if there are no pieces
abbrev pub invariant-loop-end : goal.invariant-loop-end
invariant-loop-end l = record {
  within : l.end ≤ length l.self;
  some : 0 < length l.self → 0 < l.end;
  whole : l.piece ≡ 0 → l.end ≡ length l.self;
}

abbrev pub decreases-loop-end : goal.decreases-loop-end
decreases-loop-end l = length l.self - l.end
