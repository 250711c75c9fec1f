-- Runs of an encoder, and of a decoder over its output.
use Rattle.std.proofs.Common.{◌≡◌, ◌∙◌, List, ℕ, ◌++◌, Bool, true, map, sym, ap, append-nil}
use Rattle.legacy_base.specs.{declared.results.DecodeEvent.TheVariants.Scalar, declared.results.EncodeEvent.EncodeEvent, Grammar.events_of, Encoders.Codec}
use Rattle.legacy_base.specs.Encoders.{iso_2022_jp, EncoderState, new_encoder}
use Rattle.legacy_base.specs.{Encoders.encoded, RoundTrips.{grammar_of, IsEncodedAs, bytes_of}}
use Rattle.legacy_base.proofs.RoundTrips.{round_trips, same_scalars, encodes_well_formed, escapes_are_in_place}
use Rattle.legacy_codecs.specs.{Pieces.{place_before, joined}, Runs.placed, EncodeRuns.IsEncodeRun, RoundTripRuns.{RunsEncode, RunsRoundTrip}}
use Rattle.legacy_codecs.specs.RoundTripRuns.{RunsReencodeToTheSame, RunsEncodeWellFormed, HasEscapesInPlace, RunComesBack}
use Rattle.legacy_codecs.proofs.{RunEvents.{placed-scalars, finished_gives}, EncodeRunEvents.{is_encode_beginning, finished_encodes}}

pub runs_encode : RunsEncode
runs_encode codec text bytes w = record { whole = finished_encodes w.run; unfolded = w.unfolded }

pub runs_round_trip : RunsRoundTrip
runs_round_trip codec accepted text bytes w answered f =
    sym (finished_gives f) ∙ ap (placed 0) (round_trips codec accepted text bytes (runs_encode codec text bytes w)) ∙ placed-scalars 0 text

pub runs_reencode_to_the_same : RunsReencodeToTheSame
runs_reencode_to_the_same codec accepted text bytes w decoded f answered again =
    let same = same_scalars decoded text (runs_round_trip codec accepted text bytes w (map Scalar decoded) f) in
    sym (finished_encodes again) ∙ ap (λ l. encoded (new_encoder codec) l true) same ∙ finished_encodes w.run

pub runs_encode_well_formed : RunsEncodeWellFormed
runs_encode_well_formed codec accepted text sound given run answered f =
    let bytes = ap bytes_of (sym (finished_encodes run)) in
    sym (finished_gives f)
    ∙ ap (placed 0) (ap (events_of (grammar_of codec)) bytes ∙ encodes_well_formed codec accepted text sound)
    ∙ placed-scalars 0 _

-- ---- the events of one run

in_place : (codec : Codec) (text bytes : List ℕ) → IsEncodedAs codec text bytes → HasEscapesInPlace codec text bytes
in_place (iso_2022_jp jis0208 katakana_index) text bytes t = escapes_are_in_place jis0208 katakana_index text bytes t
in_place _ text bytes t = tt

pub run_comes_back : (before : EncoderState) (pieces : List (List ℕ)) {lengths : List ℕ} {calls : ℕ} {finished : Bool} {items : List EncodeEvent}
    {after : EncoderState} →
    IsEncodeRun (place_before before pieces) lengths calls finished items after → RunComesBack before pieces finished items
run_comes_back before pieces {items = items} r codec accepted new done =
    let text = joined pieces in
    let b = is_encode_beginning before pieces r in
    let whole : encoded (new_encoder codec) text true ≡ items =
    ap (λ s. encoded s text true) (sym new) ∙ b.whole ∙ ap (λ l. items ++ l) (b.all done) ∙ append-nil items in
    record {
      itself = λ bytes is unfolded.
          let t : IsEncodedAs codec text bytes = record { whole = whole ∙ is; unfolded = unfolded } in
          (round_trips codec accepted text bytes t, in_place codec text bytes t);
      well_formed = λ sound. ap (events_of (grammar_of codec)) (ap bytes_of (sym whole)) ∙ encodes_well_formed codec accepted text sound;
    }
