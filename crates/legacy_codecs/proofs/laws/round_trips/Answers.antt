use Rattle.legacy_base.proofs.RoundTrips.{round_trips, escapes_are_in_place}
use Rattle.legacy_codecs.proofs.RoundTripRuns.{runs_encode, runs_round_trip}
use Rattle.legacy_codecs.proofs.laws.round_trips.Goals as goal

pub returns : goal.returns
returns c = record { texts = round_trips; escapes = escapes_are_in_place; written = runs_encode; runs = runs_round_trip }
