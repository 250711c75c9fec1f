use Rattle.std.proofs.Common.{◌≡◌, ◌+◌, ◌-◌, ◌*◌, ◌≤◌, ◌++◌, map, take}
use Rattle.legacy_decoder_engine.specs.PickedForms.{places, code_at}
use Rattle.legacy_decoder_engine.proofs.picks.pick.Given as goal

abbrev pub invariant-loop-group : goal.invariant-loop-group
invariant-loop-group l = record {
  counted : l.at ≤ l.count + 8 * l.group;
  picked : take l.count l.fn.codes ++ map (code_at l.block) (places 0 64 l.starts)
      ≡ take l.at l.codes ++ map (code_at l.block) (places (8 * l.group) (64 - 8 * l.group) l.left);
}
