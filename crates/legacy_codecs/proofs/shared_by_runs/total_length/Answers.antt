use Rattle.std.proofs.{Common.arith, Math.ListN.drop_of_length-le}
use Rattle.legacy_codecs.proofs.SoundPieces.{all_joined}
use Rattle.legacy_codecs.proofs.shared_by_runs.total_length.Goals as goal

pub returns-clause-total : goal.returns-clause-total
returns-clause-total g c = grind (arith, drop_of_length-le)

pub returns-clause-sound : goal.returns-clause-sound
returns-clause-sound g c =
    all_joined g.P.Piece.is_item g.P.Piece.items c.args.pieces.now (λ k d h. c.loop-piece.invariant.sound k d (omega arith))
