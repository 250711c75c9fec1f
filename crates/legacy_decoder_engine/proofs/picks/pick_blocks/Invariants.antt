use Rattle.std.proofs.Common.{◌≡◌, ◌+◌, ◌*◌, ◌≤◌, length, take}
use Rattle.legacy_decoder_engine.specs.PickedForms.{forms_of}
use Rattle.legacy_decoder_engine.proofs.picks.pick_blocks.Given as goal

abbrev pub invariant-loop-left : goal.invariant-loop-left
invariant-loop-left g l = record {
  room : l.count + 64 * l.left ≤ length l.codes;
  read : l.at ≤ length l.src;
  forms : forms_of (take l.count l.codes) ≡ take l.at l.src;
}

abbrev pub decreases-loop-left : goal.decreases-loop-left
decreases-loop-left g l = l.left
