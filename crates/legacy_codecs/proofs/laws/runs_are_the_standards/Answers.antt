use Rattle.legacy_codecs.proofs.StandardRuns.{runs_are_decoded, runs_are_encoded}
use Rattle.legacy_codecs.proofs.laws.runs_are_the_standards.Goals as goal

pub returns : goal.returns
returns c = record { decoders = runs_are_decoded; encoders = runs_are_encoded }
