use Rattle.legacy_single_byte.proofs.EncoderRuns.{code_of_place}
use Rattle.legacy_single_byte.proofs.single_byte.encoder.place_of.Goals as goal

pub returns : goal.returns
returns c =
    let place = code_of_place c.args.table.now c.args.c c.requires c.place.result c.place.ensures in record { bound = place.0; code = place.1 }
