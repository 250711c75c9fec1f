use Rattle.std.proofs.Common.{◌≡◌, ℕ, ◌*◌, ◌≤◌, get_or}
use Rattle.legacy_decoder_engine.specs.LaneCodes.{AreLanes}
use Rattle.legacy_decoder_engine.proofs.lanes.split_codes.Given as goal

-- the groups of eight so far are split, and the codes after them are as they were
abbrev pub invariant-loop-group : goal.invariant-loop-group
invariant-loop-group g l = record {
  rest : (k : ℕ) → 8 * l.group ≤ k → get_or l.codes k 0 ≡ get_or l.fn.codes k 0;
  lanes : AreLanes g.C.LaneCodec.place l.last (8 * l.group) l.fn.codes l.codes l.places;
}
