use Rattle.std.proofs.{Common.{◌≡◌, ◌+◌, ◌-◌, length, arith}, lemmas.List.take_all}
use Rattle.legacy_decoder_engine.proofs.LaneUnits.{shorter_front}
use Rattle.legacy_decoder_engine.proofs.picks.copy_front.Goals as goal

pub copy_sixteen-requires-2-clause-before : goal.copy_sixteen-requires-2-clause-before
copy_sixteen-requires-2-clause-before c = shorter_front c.min.result 16 _ _ (omega arith) c.copy_sixteen.ensures

pub copy_sixteen-requires-3-clause-before : goal.copy_sixteen-requires-3-clause-before
copy_sixteen-requires-3-clause-before c = shorter_front c.min-2.result (c.min.result + 16) _ _ (omega arith) c.copy_sixteen-2.ensures

pub copy_sixteen-requires-4-clause-before : goal.copy_sixteen-requires-4-clause-before
copy_sixteen-requires-4-clause-before c = shorter_front (length c.args.src.now - 16) (c.min-2.result + 16) _ _ (omega arith) c.copy_sixteen-3.ensures

pub returns : goal.returns
returns c =
    let src = c.args.src.now in
    let all : length src - 16 + 16 ≡ length src = omega arith in
    rw (all, take_all (length src) src (omega arith)) at c.copy_sixteen-4.ensures
