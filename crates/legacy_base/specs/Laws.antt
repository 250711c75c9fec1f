-- The laws that are proved of the definitions.
use Rattle.std.specs.Prelude.{◌≡◌, ℕ, ◌+◌, ◌<◌, ◌≤◌, List, [], ◌∷◌, ◌++◌, length, drop, Bool, Option, All}
use Rattle.std.specs.Char.{IsScalar}
use Rattle.legacy_tables.specs.declared.tables.IndexName.{IndexName}
use Rattle.legacy_base.specs.declared.results.DecodeEvent.{DecodeEvent}
use Rattle.legacy_base.specs.declared.results.DecodeEvent.TheVariants.{Scalar, Bad}
use Rattle.legacy_base.specs.Events.{shift}
use Rattle.legacy_base.specs.Fronts.{Front, reads, malformed, front_length, front_events}
use Rattle.legacy_base.specs.SingleByte.{single_byte_front}
use Rattle.legacy_base.specs.UserDefined.{user_defined_front}
use Rattle.legacy_base.specs.Big5.{big5_front}
use Rattle.legacy_base.specs.LeadForms.{lead_front}
use Rattle.legacy_base.specs.ShiftJis.{shift_jis_front}
use Rattle.legacy_base.specs.EucJp.{euc_jp_front}
use Rattle.legacy_base.specs.Gb18030.{gb18030_front}
use Rattle.legacy_base.specs.Grammar.{Grammar, single_byte, user_defined, replacement, utf16, lead_trail, big5, shift_jis, euc_jp, gb18030}
use Rattle.legacy_base.specs.Grammar.{iso_2022_jp, events_of}
use Rattle.legacy_tables.specs.Indexes.{FlatIndexes}
use Rattle.legacy_tables.specs.TableChecks.{AreAccepted, IsAcceptedTable}
use Rattle.legacy_tables.specs.Tables.{index_list}
use Rattle.legacy_tables.specs.Unicode.{IsByte, AreBytes, AreScalars}

-- the scalars of a front, or none if it is malformed
abbrev pub front_scalars : Front → List ℕ
front_scalars (reads n scalars) = scalars
front_scalars (malformed n) = []

-- a front that is not malformed gives one or two scalars
abbrev pub GivesOneOrTwo : Front → Type 0
GivesOneOrTwo (reads n scalars) = (1 ≤ length scalars) × (length scalars ≤ 2)
GivesOneOrTwo (malformed n) = Unit {0}

-- A front of a list of `size` bytes has one to four of them. It is malformed or gives one or two scalars, which are
-- Unicode scalar values if `checked` holds.
pub record IsFrontOf (size : ℕ) (checked : Type 0) (f : Front) : Type 0 where
  pub some : 0 < front_length f
  pub within : front_length f ≤ size
  pub short : front_length f ≤ 4
  pub few : GivesOneOrTwo f
  pub scalars : checked → AreScalars (front_scalars f)

-- A grammar is read front by front; `front b rest` is the front of a list with the first byte b. The scalars of each
-- front are Unicode scalar values if the grammar's lists are accepted and b is a byte.
abbrev pub IsReadByFronts : Grammar → Type 0 → (ℕ → List ℕ → Front) → Type 0
IsReadByFronts grammar accepted front = (b : ℕ) (rest : List ℕ) →
    IsFrontOf (length (b ∷ rest)) (accepted × IsByte b) (front b rest)
    × (events_of grammar (b ∷ rest)
    ≡ front_events 0 (front b rest) ++ shift (front_length (front b rest)) (events_of grammar (drop (front_length (front b rest)) (b ∷ rest))))

-- The grammars that are read front by front, with any lists, accepted or not. Six are of one codec each. The others are
-- the codecs of leads and trails, such as EUC-KR, with any of the indexes.
pub record AreReadByFronts : Type 0 where
  pub single_byte_is : (table : List ℕ) → IsReadByFronts (single_byte table) (IsAcceptedTable table) (single_byte_front table)
  pub user_defined_is : IsReadByFronts user_defined Unit user_defined_front
  pub lead_trail_is : (is_lead_byte : ℕ → Bool) (pointers : ℕ → ℕ → Option ℕ) (name : IndexName) (flat : FlatIndexes) →
      IsReadByFronts (lead_trail is_lead_byte pointers (index_list flat name)) (AreAccepted flat)
      (lead_front is_lead_byte pointers (index_list flat name))
  pub big5_is : (flat : FlatIndexes) → IsReadByFronts (big5 flat.big5) (AreAccepted flat) (big5_front flat.big5)
  pub shift_jis_is : (flat : FlatIndexes) → IsReadByFronts (shift_jis flat.jis0208) (AreAccepted flat) (shift_jis_front flat.jis0208)
  pub euc_jp_is : (flat : FlatIndexes) →
      IsReadByFronts (euc_jp flat.jis0208 flat.jis0212) (AreAccepted flat) (euc_jp_front flat.jis0208 flat.jis0212)
  pub gb18030_is : (flat : FlatIndexes) →
      IsReadByFronts (gb18030 flat.gb18030 flat.ranges) (AreAccepted flat) (gb18030_front flat.gb18030 flat.ranges)

-- an empty list has no events
abbrev pub HasNoneOfNothing : Type 0
HasNoneOfNothing = (grammar : Grammar) → events_of grammar [] ≡ []

-- the lists of a grammar are those of accepted tables
abbrev pub IsOfAcceptedTables : Grammar → Type 0
IsOfAcceptedTables (single_byte table) = IsAcceptedTable table
IsOfAcceptedTables user_defined = Unit {0}
IsOfAcceptedTables (replacement reported) = Unit {0}
IsOfAcceptedTables (utf16 big_endian) = Unit {0}
IsOfAcceptedTables (big5 index) = (flat : FlatIndexes) × AreAccepted flat × (index ≡ flat.big5)
IsOfAcceptedTables (lead_trail is_lead_byte pointers index) =
    (flat : FlatIndexes) × AreAccepted flat × (name : IndexName) × (index ≡ index_list flat name)
IsOfAcceptedTables (shift_jis jis0208) = (flat : FlatIndexes) × AreAccepted flat × (jis0208 ≡ flat.jis0208)
IsOfAcceptedTables (euc_jp jis0208 jis0212) =
    (flat : FlatIndexes) × AreAccepted flat × (jis0208 ≡ flat.jis0208) × (jis0212 ≡ flat.jis0212)
IsOfAcceptedTables (gb18030 index ranges) =
    (flat : FlatIndexes) × AreAccepted flat × (index ≡ flat.gb18030) × (ranges ≡ flat.ranges)
IsOfAcceptedTables (iso_2022_jp jis0208 mode) = (flat : FlatIndexes) × AreAccepted flat × (jis0208 ≡ flat.jis0208)

-- An event of a list of `size` bytes. A malformed sequence has one to four bytes inside the list. A scalar is a Unicode
-- scalar value if `checked` holds.
abbrev pub IsEventOf : ℕ → Type 0 → DecodeEvent → Type 0
IsEventOf size checked (Scalar c) = checked → IsScalar c
IsEventOf size checked (Bad place length) = (1 ≤ length) × (length ≤ 4) × (place + length ≤ size)

-- In every codec, all events of a list are such events. A scalar is a Unicode scalar value if the tables are accepted
-- and the list consists of bytes.
abbrev pub HasSoundEvents : Type 0
HasSoundEvents = (grammar : Grammar) (bytes : List ℕ) →
    All (IsEventOf (length bytes) (IsOfAcceptedTables grammar × AreBytes bytes)) (events_of grammar bytes)
