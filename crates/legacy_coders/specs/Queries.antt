-- The forms of the texts that encoders are asked about.
use Rattle.legacy_text.specs.EncodingForm.{EncodingForm, Utf8, Utf16}
use Rattle.legacy_coders.specs.declared.queries.TextForm.{TextForm}
use Rattle.legacy_coders.specs.declared.queries.TextForm.TheVariants as text

-- the encoding form of such a text
abbrev pub encoding_form : TextForm → EncodingForm
encoding_form text.Utf8 = Utf8
encoding_form text.Utf16 = Utf16
