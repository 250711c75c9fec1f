use Rattle.legacy_codecs.proofs.ByteRoundTrips.{bytes_round_trip, runs_keep_bytes}
use Rattle.legacy_codecs.proofs.laws.bytes_round_trip.Goals as goal

pub returns : goal.returns
returns c = record { texts = bytes_round_trip; runs = runs_keep_bytes }
