use Rattle.legacy_miscellaneous.proofs.user_defined.decoder.UserDefinedDecoderRawDecoder.step.Goals as goal

pub returns-clause-call : goal.returns-clause-call
returns-clause-call g c = c.drive_decoder.ensures.call
