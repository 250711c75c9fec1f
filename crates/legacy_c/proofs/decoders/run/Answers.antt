use Rattle.std.proofs.Common.{◌∙◌}
use Rattle.legacy_c.proofs.SavedStates.{saves_after}
use Rattle.legacy_c.proofs.decoders.run.Goals as goal

pub returns : goal.returns
returns g c =
    let held = rw c.source.ensures at c.keep.ensures.held in
    record {
      before = g.D.RawDecoder.state c.args.decoder;
      after = g.D.RawDecoder.state c.run-result.new.decoder;
      saved_before = c.requires;
      saved_after = saves_after _ c.requires c.run-result.ensures.reads c.keep.ensures.long c.keep.ensures.codec
          (c.keep.ensures.mode ∙ c.mode_number.ensures) c.keep.ensures.count c.held_count.ensures held;
      between = c.run-result.ensures.gives;
    }
