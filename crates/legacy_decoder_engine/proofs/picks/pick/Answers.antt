use Rattle.std.proofs.Common.{arith}
use Rattle.legacy_decoder_engine.specs.PickedForms.{code_at}
use Rattle.legacy_decoder_engine.proofs.Picking.{next_eight}
use Rattle.legacy_decoder_engine.proofs.picks.pick.Goals as goal

pub loop-group-preserved : goal.loop-group-preserved
loop-group-preserved c =
    let l = c.loop-group in
    record {
      counted = omega arith;
      picked = next_eight (code_at c.args.block.now) l.group l.left l.at c.store_codes-at.result l.codes c.store_codes-at.new.codes _
          (omega arith) l.invariant.picked c.store_codes-at.ensures.written;
    }
