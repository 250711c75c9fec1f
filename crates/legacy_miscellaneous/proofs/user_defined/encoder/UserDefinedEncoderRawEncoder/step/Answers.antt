use Rattle.legacy_miscellaneous.proofs.user_defined.encoder.UserDefinedEncoderRawEncoder.step.Goals as goal

pub returns-clause-call : goal.returns-clause-call
returns-clause-call g c = c.drive_encoder.ensures.call
