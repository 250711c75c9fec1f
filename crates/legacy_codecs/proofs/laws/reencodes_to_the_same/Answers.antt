use Rattle.legacy_base.proofs.{RoundTrips.reencodes_to_the_same, Reencoding.reencodes_any_text}
use Rattle.legacy_codecs.proofs.RoundTripRuns.{runs_reencode_to_the_same}
use Rattle.legacy_codecs.proofs.laws.reencodes_to_the_same.Goals as goal

pub returns : goal.returns
returns c = record { texts = reencodes_to_the_same; any_text = reencodes_any_text; runs = runs_reencode_to_the_same }
