use Rattle.std.proofs.lemmas.Str.{scalars-chars}
use Rattle.legacy_codecs.proofs.SoundPieces.{scalars_are}
use Rattle.legacy_codecs.proofs.shared_by_runs.RefStrPiece.count.Goals as goal

pub returns-clause-sound : goal.returns-clause-sound
returns-clause-sound c = scalars_are _ (scalars-chars c.args.self.now c.utf8.self)
