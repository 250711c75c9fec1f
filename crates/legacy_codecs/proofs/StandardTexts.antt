-- Whole inputs and whole texts become what the Standard's decoders and encoders give.
use Rattle.std.proofs.Common.{refl}
use Rattle.legacy_standard.proofs.AllCodecs.{all_decoders, all_encoders}
use Rattle.legacy_codecs.proofs.OneResult.{one_decoded, one_encoded}
use Rattle.legacy_codecs.specs.{WholeTexts.text_of, StandardTexts.{TextsAreDecodedByHandlers, TextsAreEncodedByHandlers}}

pub texts_are_decoded : TextsAreDecodedByHandlers
unfolding text_of
texts_are_decoded decoder bytes all =
    let events = all_decoders decoder bytes all in (_, (events, λ other given. one_decoded decoder bytes given events), refl, refl)

pub texts_are_encoded : TextsAreEncodedByHandlers
texts_are_encoded codec ranges has text all =
    let events = all_encoders codec ranges has text all in (_, (events, λ other given. one_encoded codec text given events), refl)
