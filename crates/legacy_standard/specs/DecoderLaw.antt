-- The law of decoders: the handlers give the events of the grammars.
use Rattle.std.specs.Prelude.{ℕ, List, Bool, false}
use Rattle.legacy_base.specs.declared.results.DecodeEvent.{DecodeEvent}
use Rattle.legacy_base.specs.Grammar as grammars
use Rattle.legacy_base.specs.Grammar.{Grammar, events_of}
use Rattle.legacy_base.specs.EucKr as korean
use Rattle.legacy_base.specs.declared.modes.DecoderMode.TheVariants.{Ascii}
use Rattle.legacy_tables.specs.Unicode.{AreBytes}
use Rattle.legacy_standard.specs.Processing.{Processes, all_read}
use Rattle.legacy_standard.specs.SingleByte.{single_byte_handler}
use Rattle.legacy_standard.specs.UserDefined.{user_defined_handler}
use Rattle.legacy_standard.specs.Replacement.{replacement_handler}
use Rattle.legacy_standard.specs.EucKr.{euc_kr_handler}
use Rattle.legacy_standard.specs.Big5.{big5_handler}
use Rattle.legacy_standard.specs.ShiftJis.{shift_jis_handler}
use Rattle.legacy_standard.specs.EucJp.{euc_jp_handler, euc_jp_initial}
use Rattle.legacy_standard.specs.Gb18030.{gb18030_handler, gb18030_initial}
use Rattle.legacy_standard.specs.Utf16.{utf16_handler, utf16_initial}
use Rattle.legacy_standard.specs.Iso2022Jp.{iso_2022_jp_handler, iso_2022_jp_malformed, iso_2022_jp_initial}

-- the decoders of the Standard with their indexes; the gb18030 decoder is GBK's too
pub data Decoder : Type 0 where
  single_byte : (table : List ℕ) → Decoder
  user_defined : Decoder
  replacement : Decoder
  utf16 : (is_utf16be : Bool) → Decoder
  euc_kr : (index : List ℕ) → Decoder
  big5 : (index : List ℕ) → Decoder
  shift_jis : (jis0208 : List ℕ) → Decoder
  euc_jp : (jis0208 jis0212 : List ℕ) → Decoder
  gb18030 : (index : List ℕ) (ranges : List (ℕ × ℕ)) → Decoder
  iso_2022_jp : (jis0208 : List ℕ) → Decoder

-- the grammar of each decoder
abbrev pub decoder_grammar : Decoder → Grammar
decoder_grammar (single_byte table) = grammars.single_byte table
decoder_grammar user_defined = grammars.user_defined
decoder_grammar replacement = grammars.replacement false
decoder_grammar (utf16 is_utf16be) = grammars.utf16 is_utf16be
decoder_grammar (euc_kr index) = korean.euc_kr index
decoder_grammar (big5 index) = grammars.big5 index
decoder_grammar (shift_jis jis0208) = grammars.shift_jis jis0208
decoder_grammar (euc_jp jis0208 jis0212) = grammars.euc_jp jis0208 jis0212
decoder_grammar (gb18030 index ranges) = grammars.gb18030 index ranges
decoder_grammar (iso_2022_jp jis0208) = grammars.iso_2022_jp jis0208 Ascii

-- The handler finishes over these bytes, and its code points and errors are these events, with the place and length of
-- each malformed sequence.
abbrev pub HandlerDecodes : Decoder → List ℕ → List DecodeEvent → Type 0
HandlerDecodes (single_byte table) bytes events = Processes (single_byte_handler table) all_read tt bytes events
HandlerDecodes user_defined bytes events = Processes user_defined_handler all_read tt bytes events
HandlerDecodes replacement bytes events = Processes replacement_handler all_read false bytes events
HandlerDecodes (utf16 is_utf16be) bytes events = Processes (utf16_handler is_utf16be) all_read utf16_initial bytes events
HandlerDecodes (euc_kr index) bytes events = Processes (euc_kr_handler index) all_read 0x00 bytes events
HandlerDecodes (big5 index) bytes events = Processes (big5_handler index) all_read 0x00 bytes events
HandlerDecodes (shift_jis jis0208) bytes events = Processes (shift_jis_handler jis0208) all_read 0x00 bytes events
HandlerDecodes (euc_jp jis0208 jis0212) bytes events = Processes (euc_jp_handler jis0208 jis0212) all_read euc_jp_initial bytes events
HandlerDecodes (gb18030 index ranges) bytes events = Processes (gb18030_handler index ranges) all_read gb18030_initial bytes events
HandlerDecodes (iso_2022_jp jis0208) bytes events = Processes (iso_2022_jp_handler jis0208) iso_2022_jp_malformed iso_2022_jp_initial bytes events

-- each handler gives the events of its grammar, for every list of bytes and any indexes, accepted or not
abbrev pub AreDecodedByHandlers : Type 0
AreDecodedByHandlers = (decoder : Decoder) (bytes : List ℕ) → AreBytes bytes → HandlerDecodes decoder bytes (events_of (decoder_grammar decoder) bytes)
