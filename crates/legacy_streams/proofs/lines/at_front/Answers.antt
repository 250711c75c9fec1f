use Rattle.std.proofs.Math.Seq.{take-append_seam}
use Rattle.legacy_streams.proofs.lines.at_front.Goals as goal

pub returns : goal.returns
returns c = rw c.copy_from_slice.ensures.after (take-append_seam c.args.digits.now _)
