use Rattle.legacy_base.proofs.RoundTrips.{encodes_well_formed, escapes_stay_apart}
use Rattle.legacy_codecs.proofs.RoundTripRuns.{runs_encode_well_formed}
use Rattle.legacy_codecs.proofs.laws.encodes_well_formed.Goals as goal

pub returns : goal.returns
returns c = record { texts = encodes_well_formed; escapes = escapes_stay_apart; runs = runs_encode_well_formed }
