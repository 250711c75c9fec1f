use Rattle.legacy_decoder_engine.proofs.TwoByteMeets.{is_lead-in}
use Rattle.legacy_chinese.proofs.gb18030.decoder.read_next.Goals as goal

pub returns-in-None : goal.returns-in-None
returns-in-None c =
    let first = c.in-First.first in
    let scalars = rw (is_lead-in first.byte first.low first.high) at c.form_scalar.ensures.value in
    rw (c.in-First.is, c.in-None.ensures) (rw scalars at (c.read_trail.ensures first.byte))
