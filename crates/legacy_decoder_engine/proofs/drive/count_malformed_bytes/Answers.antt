use Rattle.legacy_decoder_engine.proofs.drive.count_malformed_bytes.Goals as goal

pub returns-then-not-is_malformed_byte-clause-malformed_byte : goal.returns-then-not-is_malformed_byte-clause-malformed_byte
returns-then-not-is_malformed_byte-clause-malformed_byte g c = c.loop-count.invariant.malformed_byte
