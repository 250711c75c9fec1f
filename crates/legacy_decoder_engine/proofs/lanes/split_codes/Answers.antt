use Rattle.std.proofs.Common.{◌≡◌, ◌∙◌, ◌+◌, ◌*◌, arith}
use Rattle.std.proofs.lemmas.{List.map-id, Simd.get_or-put_chunk_above}
use Rattle.legacy_decoder_engine.proofs.LaneUnits.{next_lanes}
use Rattle.legacy_decoder_engine.proofs.lanes.split_codes.Goals as goal

pub loop-group-preserved : goal.loop-group-preserved
loop-group-preserved g c =
    let l = c.loop-group in
    let i = l.invariant in
    let next : 8 * (l.group + 1) ≡ 8 * l.group + 8 = omega arith in
    record {
      rest = λ k h. get_or-put_chunk_above (8 * l.group) l.codes _ k 0 (omega arith) ∙ i.rest k (omega arith);
      lanes = rw (next, map-id) (next_lanes _ _ (8 * l.group) c.args.codes.now l.codes l.places _ _ (omega arith) (omega arith) (omega arith) (omega arith)
          i.rest i.lanes c.kept_and_places.ensures);
    }

pub returns : goal.returns
returns g c k h = c.loop-group.invariant.lanes k (omega arith)

pub kept_and_places-requires : goal.kept_and_places-requires
kept_and_places-requires g c = omega arith

pub overflow_mul-at : goal.overflow_mul-at
overflow_mul-at g c = omega arith
