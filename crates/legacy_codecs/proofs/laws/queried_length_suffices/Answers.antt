use Rattle.legacy_base.specs.Lengths.{to_utf16, to_utf8, to_utf8_without_replacement}
use Rattle.legacy_text.specs.EncodingForm.{Utf8, Utf16}
use Rattle.legacy_codecs.proofs.QueriedLengths.{queried_length_suffices, replacing_queried_length_suffices}
use Rattle.legacy_codecs.proofs.laws.queried_length_suffices.Goals as goal

pub returns : goal.returns
returns c = record {
  utf16 = queried_length_suffices to_utf16;
  utf8 = queried_length_suffices to_utf8;
  utf8_without_replacement = queried_length_suffices to_utf8_without_replacement;
  replacing_utf16 = replacing_queried_length_suffices Utf16;
  replacing_utf8 = replacing_queried_length_suffices Utf8;
}
