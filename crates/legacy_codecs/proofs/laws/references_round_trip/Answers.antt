use Rattle.legacy_codecs.proofs.ReferenceRoundTrips.{references_round_trip, references_keep_escapes_apart, reencodes_references, runs_read_references}
use Rattle.legacy_codecs.proofs.laws.references_round_trip.Goals as goal

pub returns : goal.returns
returns c = record {
  texts = references_round_trip;
  escapes = references_keep_escapes_apart;
  again = reencodes_references;
  runs = runs_read_references;
}
