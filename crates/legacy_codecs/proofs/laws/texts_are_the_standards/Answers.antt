use Rattle.legacy_codecs.proofs.StandardTexts.{texts_are_decoded, texts_are_encoded}
use Rattle.legacy_codecs.proofs.laws.texts_are_the_standards.Goals as goal

pub returns : goal.returns
returns c = record { decoders = texts_are_decoded; encoders = texts_are_encoded }
