use Rattle.legacy_text.proofs.Ascii.{put_slice}
use Rattle.legacy_text.proofs.blocks.store_wide.Goals as goal

pub returns : goal.returns
returns c = λ k few. put_slice c.args.at 64 k c.args.dst.now c.args.bytes.now c.requires.room c.requires.block few
