use Rattle.legacy_chinese.proofs.gb18030.decoder.Gb18030DecoderRawDecoder.step.Goals as goal

pub returns-clause-call : goal.returns-clause-call
returns-clause-call g c = c.drive_decoder.ensures.call
