use Rattle.std.proofs.Common.{arith}
use Rattle.std.proofs.{lemmas.List.map-id}
use Rattle.legacy_text.proofs.Ascii.{put_slice}
use Rattle.legacy_text.proofs.byte_units.store_bytes.Goals as goal

pub returns : goal.returns
returns c = λ k few. simp map-id (put_slice c.args.at 64 k c.args.dst.now c.args.bytes.now c.requires.room c.requires.block few)

pub bounds-bytes-0 : goal.bounds-bytes-0
bounds-bytes-0 c = omega arith
