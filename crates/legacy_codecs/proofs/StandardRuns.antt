-- Finished runs give what the Standard's decoders and encoders give.
use Rattle.std.proofs.Common.{◌≡◌, ◌∙◌, ℕ, Bool, List, [], ◌∷◌, append-nil, refl, sym, subst, arith}
use Rattle.legacy_base.specs.declared.results.DecodeEvent.{DecodeEvent}
use Rattle.legacy_base.specs.{declared.results.EncodeEvent.EncodeEvent, States.DecoderState, Encoders.EncoderState}
use Rattle.legacy_base.specs.Encoders.{Codec, gb18030}
use Rattle.legacy_base.specs.RoundTrips.{HasAcceptedLists}
use Rattle.legacy_tables.{proofs.Accepted.parts, specs.Unicode.{AreBytes, AreScalars}}
use Rattle.legacy_standard.specs.{DecoderLaw.HandlerDecodes, EncoderLaw.{HasAcceptedRanges, AreAcceptedRanges, HandlerEncodes}}
use Rattle.legacy_standard.proofs.AllCodecs.{all_decoders, all_encoders}
use Rattle.legacy_codecs.specs.{Pieces.joined, Runs.{placed, IsBeginning}, EncodeRuns.IsEncodeBeginning, StandardRuns.RunIsDecodedByHandler}
use Rattle.legacy_codecs.specs.StandardRuns.{RunIsEncodedByHandler, RunsAreDecodedByHandlers, RunsAreEncodedByHandlers}
use Rattle.legacy_codecs.proofs.{RunEvents.finished_gives, EncodeRunEvents.finished_encodes}

-- for a decoder that holds nothing back, places do not change
placed-zero : (events : List DecodeEvent) → placed 0 events ≡ events
unfolding placed
placed-zero [] = refl
placed-zero (event ∷ events) = grind (arith, placed-zero events)

pub run_is_decoded : (before : DecoderState) (pieces : List (List ℕ)) {finished : Bool} {answered : List DecodeEvent} → AreBytes (joined pieces) →
    IsBeginning before pieces finished answered → RunIsDecodedByHandler before pieces finished answered
run_is_decoded before pieces {answered = answered} all b decoder new done = grind (arith, append-nil, placed-zero, all_decoders)

pub runs_are_decoded : RunsAreDecodedByHandlers
runs_are_decoded decoder bytes all answered run =
    subst (HandlerDecodes decoder bytes) (sym (placed-zero _) ∙ finished_gives run) (all_decoders decoder bytes all)

-- accepted tables have accepted ranges
pub accepted_ranges : (codec : Codec) → HasAcceptedLists codec → HasAcceptedRanges codec
accepted_ranges (gb18030 index ranges pua) (indexes, _, same, _) =
    let p = parts indexes.flat indexes.accepted in
    subst AreAcceptedRanges (sym same) (record { ordered = p.ordered; valued = p.valued })
accepted_ranges _ lists = tt

pub run_is_encoded : (before : EncoderState) (pieces : List (List ℕ)) {finished : Bool} {answered : List EncodeEvent} → AreScalars (joined pieces) →
    IsEncodeBeginning before pieces finished answered → RunIsEncodedByHandler before pieces finished answered
run_is_encoded before pieces {answered = answered} all b codec ranges has new done = grind (arith, append-nil, all_encoders)

pub runs_are_encoded : RunsAreEncodedByHandlers
runs_are_encoded codec ranges has text all answered run =
    subst (HandlerEncodes codec text) (finished_encodes run) (all_encoders codec ranges has text all)
