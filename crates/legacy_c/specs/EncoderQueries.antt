-- The length queries of an encoder.
use Rattle.legacy_text.specs.EncodingForm.{EncodingForm, Utf8, Utf16}
use Rattle.legacy_c.specs.declared.encoder_tasks.TextForm.{TextForm}
use Rattle.legacy_c.specs.declared.encoder_tasks.TextForm.TheVariants as text

-- the encoding form of a text
abbrev pub text_form : TextForm → EncodingForm
text_form text.Utf8 = Utf8
text_form text.Utf16 = Utf16
