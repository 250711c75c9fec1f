use Rattle.legacy_text.specs.EncodingForm.{Utf8, Utf16}
use Rattle.legacy_codecs.proofs.EncodeLengths.{encode_queried_length_suffices}
use Rattle.legacy_codecs.proofs.laws.encode_queried_length_suffices.Goals as goal

pub returns : goal.returns
returns c = record { from_utf16 = encode_queried_length_suffices Utf16; from_utf8 = encode_queried_length_suffices Utf8 }
