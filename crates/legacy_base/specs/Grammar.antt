-- The events of each decoder for a whole list of bytes.
use Rattle.std.specs.Prelude.{ℕ, List, Bool, false, Option}
use Rattle.legacy_base.specs.declared.results.DecodeEvent.{DecodeEvent}
use Rattle.legacy_base.specs.Profile.{Profile}
use Rattle.legacy_base.specs.SingleByte.{single_byte_profile}
use Rattle.legacy_base.specs.UserDefined.{user_defined_profile}
use Rattle.legacy_base.specs.Big5.{big5_profile}
use Rattle.legacy_base.specs.LeadForms.{lead_trail_profile}
use Rattle.legacy_base.specs.ShiftJis.{shift_jis_profile}
use Rattle.legacy_base.specs.EucJp.{euc_jp_profile}
use Rattle.legacy_base.specs.Gb18030.{gb18030_profile}
use Rattle.legacy_base.specs.declared.modes.DecoderMode.{DecoderMode, TheVariants.Ascii}
use Rattle.legacy_base.specs.Iso2022Jp.{iso_2022_jp_profile}
use Rattle.legacy_base.specs.Utf16.{utf16_profile}
use Rattle.legacy_base.specs.Replacement.{replacement_profile}

-- A decoder with the lists that it uses. ISO-2022-JP also has the mode in which a list begins, UTF-16 the byte order,
-- and the replacement decoder whether it has reported its error. A codec of leads and
-- trails without other sequences is a `lead_trail` with its leads, pointers and index.
pub data Grammar : Type 0 where
  single_byte : (table : List ℕ) → Grammar
  user_defined : Grammar
  replacement : (reported : Bool) → Grammar
  utf16 : (big_endian : Bool) → Grammar
  big5 : (index : List ℕ) → Grammar
  lead_trail : (is_lead_byte : ℕ → Bool) (pointers : ℕ → ℕ → Option ℕ) (index : List ℕ) → Grammar
  shift_jis : (jis0208 : List ℕ) → Grammar
  euc_jp : (jis0208 jis0212 : List ℕ) → Grammar
  gb18030 : (index : List ℕ) (ranges : List (ℕ × ℕ)) → Grammar
  iso_2022_jp : (jis0208 : List ℕ) (mode : DecoderMode) → Grammar

-- the profile of a grammar's codec
abbrev pub profile : Grammar → Profile
profile (single_byte table) = single_byte_profile table
profile user_defined = user_defined_profile
profile (replacement reported) = replacement_profile reported
profile (utf16 big_endian) = utf16_profile big_endian
profile (big5 index) = big5_profile index
profile (lead_trail is_lead_byte pointers index) = lead_trail_profile is_lead_byte pointers index
profile (shift_jis jis0208) = shift_jis_profile jis0208
profile (euc_jp jis0208 jis0212) = euc_jp_profile jis0208 jis0212
profile (gb18030 index ranges) = gb18030_profile index ranges
profile (iso_2022_jp jis0208 mode) = iso_2022_jp_profile jis0208 mode

-- The same decoder as it was made. Only the mode in ISO-2022-JP and the report of the replacement decoder change.
abbrev pub as_new : Grammar → Grammar
as_new (replacement reported) = replacement false
as_new (iso_2022_jp jis0208 mode) = iso_2022_jp jis0208 Ascii
as_new grammar = grammar

-- the events of a list of bytes
unfoldable pub events_of : Grammar → List ℕ → List DecodeEvent
events_of grammar bytes = (profile grammar).events bytes
