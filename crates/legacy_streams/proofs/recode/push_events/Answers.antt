use Rattle.std.proofs.Common.{arith}
use Rattle.legacy_text.specs.Texts.{unit_scalars}
use Rattle.legacy_streams.proofs.EventLines.{line_of_malformed}
use Rattle.legacy_streams.proofs.recode.push_events.Goals as goal

pub returns : goal.returns
returns c =
    let malformed = c.in-Malformed in
    rw malformed.is (line_of_malformed _ (unit_scalars c.args.units.now) c.args.read malformed.sequence malformed.back
    c.push_units.ensures.text c.push_malformed.ensures.text (omega arith) c.from-3.ensures)
