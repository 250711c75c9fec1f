use Rattle.std.proofs.Common.{arith}
use Rattle.legacy_codecs.proofs.SoundPieces.{unit_scalars_are}
use Rattle.legacy_codecs.proofs.shared_by_runs.RefSliceU16Piece.count.Goals as goal

pub returns-clause-sound : goal.returns-clause-sound
returns-clause-sound c = unit_scalars_are c.args.self.now (λ i. let f = c.type_inv.self i in omega arith)
