use Rattle.legacy_encoder_engine.proofs.cached.CachedEncoderRawEncoder.max_buffer_length_from_utf16_without_replacement.Goals as goal

pub returns : goal.returns
returns g c = rw (g.met.E.EncodesPairs.same c.args.self.now.encoder.now) at c.max_buffer_length_from_utf16_without_replacement.ensures
