-- The small moves of a decoder, which make up its calls. A move is the same in both encoding forms.
use Rattle.std.specs.Prelude.{◌≡◌, ◌≢◌, ℕ, ◌+◌, ◌-◌, ◌<◌, ◌≤◌, List, [], ◌∷◌, ◌++◌, length, map, true, false, IsTrue, Bool, Option, None, ◌⊎◌, All}
use Rattle.std.specs.{Prelude.{if◌then◌else◌, get_or}, Char.IsScalar}
use Rattle.legacy_base.specs.declared.results.DecoderResult.{TheVariants.{InputEmpty, OutputFull, Malformed}, DecoderResult}
use Rattle.legacy_base.specs.declared.results.DecodeEvent.{DecodeEvent, TheVariants.{Scalar, Bad}}
use Rattle.legacy_base.specs.Lengths.{LengthQuery, query_form, replacement_units, total_need}
use Rattle.legacy_base.specs.{States.{DecoderState, may_hold, rests}, Grammar.{Grammar, as_new, events_of}, Calls.{Progress, IsMalformedSequence}}
use Rattle.legacy_base.specs.DecoderActs.{act_need, full_need_in, release_need_in, need_in, wants_full_need, HadRoom}
use Rattle.legacy_text.specs.{EncodingForm.{EncodingForm, unit_count, all_code_units, total_unit_count, bmp_need}, declared.destination.Destination.Ghosts}
use Rattle.{legacy_text.specs.EncodingForm.wide_need, legacy_decoder_engine.specs.declared.moves.Fed.{TheVariants.{Nothing, One, Two, MalformedSequence}, Fed}}
use Rattle.legacy_decoder_engine.specs.declared.moves.Need.{Need, TheVariants.{Narrow, Wide, Nothing as NoNeed, Unit as OneUnit}}
use Rattle.legacy_base.specs.DecoderActs as acts

-- the number of code units of a need
abbrev pub need_units : EncodingForm → Need → ℕ
need_units form NoNeed = 0
need_units form OneUnit = 1
need_units form Narrow = bmp_need form
need_units form Wide = wide_need form

-- the need of reading a byte
abbrev pub read_need : EncodingForm → DecoderState → ℕ → ℕ
read_need form state byte = act_need (bmp_need form) (wide_need form) state (acts.takes byte)

-- the total need of a length query is enough for the next act
pub record IsCovered (state : DecoderState) : Type 0 where
  pub covers : (query : LengthQuery) (unread : List ℕ) (last : Bool) → need_in (query_form query) state unread last ≤ total_need query state (length unread)

-- ---- reading a byte

-- the scalars that a byte gives
abbrev pub fed_scalars : Fed → List ℕ
fed_scalars (One c) = c ∷ []
fed_scalars (Two c d) = c ∷ d ∷ []
fed_scalars fed = []

-- the malformed sequence that a byte reveals; it ends the bytes that are done with
abbrev pub fed_malformed : ℕ → Fed → List DecodeEvent
fed_malformed passed (MalformedSequence sequence back unread) = Bad (passed - sequence) sequence ∷ []
fed_malformed passed fed = []

-- the code units that a length query sets aside for that sequence
abbrev pub fed_units : LengthQuery → Fed → ℕ
fed_units query (MalformedSequence sequence back unread) = replacement_units query
fed_units query fed = 0

-- the byte, if it is not read
abbrev pub unread_byte : ℕ → Fed → List ℕ
unread_byte byte (MalformedSequence sequence back unread) = if unread then byte ∷ [] else []
unread_byte byte fed = []

-- After a malformed sequence, the sequence is among the bytes seen and ends before the held-back bytes. Otherwise no
-- held-back scalar is to be written.
abbrev pub FedHolds : ℕ → DecoderState → Fed → Type 0
FedHolds passed after (MalformedSequence sequence back unread) = IsMalformedSequence (passed + length after.held) after sequence back
FedHolds passed after fed = IsTrue (rests after.grammar after.held)

-- a byte reveals a malformed sequence
abbrev pub RevealsMalformed : Fed → Type 0
RevealsMalformed (MalformedSequence sequence back unread) = Unit {0}
RevealsMalformed fed = ⊥

-- two grammars are of the same codec, and have the same needs for the same scalars
pub record SameNeeds (before after : Grammar) : Type 0 where
  pub codec : as_new after ≡ as_new before
  pub full : (form : EncodingForm) → full_need_in form after ≡ full_need_in form before
  pub report : (form : EncodingForm) → release_need_in form after ≡ release_need_in form before
  pub wants : (previous : Option ℕ) (c : ℕ) → wants_full_need after previous c ≡ wants_full_need before previous c

-- the result of reading a byte if no held-back scalar is to be written
pub record Feeds (before : DecoderState) (byte : ℕ) (after : DecoderState) (fed : Fed) : Type 0 where
  -- the decoder goes on through the input
  pub passed : ℕ
  pub progress : Progress false before (byte ∷ []) passed after (unread_byte byte fed) (map Scalar (fed_scalars fed) ++ fed_malformed passed fed)
  pub holds : FedHolds passed after fed
  pub allowed : may_hold after.grammar after.held ≡ true
  pub needs : SameNeeds before.grammar after.grammar
  -- a byte that gives a scalar leaves nothing held back
  pub empties : fed_scalars fed ≢ [] → after.held ≡ []
  -- a malformed sequence and a held-back byte have the full need, and a report needs no more
  pub report : (form : EncodingForm) → release_need_in form before.grammar ≤ full_need_in form before.grammar
  pub full : (form : EncodingForm) → (RevealsMalformed fed ⊎ (after.held ≢ [])) → full_need_in form before.grammar ≤ read_need form before byte
  -- the scalars have at most the code units that reading the byte needs, and had room
  pub fits : (form : EncodingForm) → total_unit_count form (fed_scalars fed) ≤ read_need form before byte
  pub had : (form : EncodingForm) (free : ℕ) → read_need form before byte ≤ free → HadRoom form before.grammar None free (fed_scalars fed)
  pub scalar : All IsScalar (fed_scalars fed)
  -- the total need falls by what is written
  pub lowers : (query : LengthQuery) (n : ℕ) → total_need query after (n + length (unread_byte byte fed)) +
      (total_unit_count (query_form query) (fed_scalars fed) + fed_units query fed) ≤ total_need query before (n + 1)

-- a byte that is malformed by itself if nothing is held back, whatever bytes follow; it leaves the state unchanged
abbrev pub FeedsMalformedByte : DecoderState → ℕ → Type 0
FeedsMalformedByte state byte = (state.held ≡ []) × Feeds state byte state (MalformedSequence 1 0 false)

-- the source has such a byte at a place
abbrev pub HasMalformedByte : DecoderState → List ℕ → ℕ → Type 0
HasMalformedByte state source at = (at < length source) × FeedsMalformedByte state (get_or source at 0)

-- bytes that were read one after another, each with its room, and are held back
unfoldable pub HoldsBytes : EncodingForm → ℕ → DecoderState → List ℕ → DecoderState → Type 0
HoldsBytes form free before [] after = after ≡ before
HoldsBytes form free before (byte ∷ bytes) after =
    (mid : DecoderState) × Feeds before byte mid Nothing × (read_need form before byte ≤ free) × HoldsBytes form free mid bytes after

-- a byte that was read within a call, with what it gave written
pub record WritesFed {D : Type 0} (T : Ghosts D) (before : DecoderState) (byte : ℕ) (after : DecoderState) (old new : D) : Type 0 where
  pub fed : Fed
  pub feeds : Feeds before byte after fed
  pub sound : RevealsMalformed fed → ⊥
  pub enough : read_need T.form before byte ≤ T.room old
  pub written : T.contents new ≡ T.contents old ++ all_code_units T.form (fed_scalars fed)
  pub room : T.room new + total_unit_count T.form (fed_scalars fed) ≡ T.room old
  pub loan : T.loan new ≡ T.loan old

-- A byte at which a call ends, with `free` free code units. Either reading it lacks its room, and nothing changes, or it
-- reveals a malformed sequence. `read` says whether the byte was read.
abbrev pub EndsAt : EncodingForm → ℕ → DecoderState → ℕ → DecoderState → DecoderResult → ℕ → Type 0
EndsAt form free before byte after InputEmpty read = ⊥
EndsAt form free before byte after OutputFull read =
    (after ≡ before) × (read ≡ 0) × (free < read_need form before byte) × IsCovered before
EndsAt form free before byte after (Malformed sequence back) read =
    (unread : Bool) × Feeds before byte after (MalformedSequence sequence back unread) × (read ≡ (if unread then 0 else 1))
    × (read_need form before byte ≤ free)

-- ---- writing a held-back scalar

-- the result of writing it
pub record Releases (before : DecoderState) (after : DecoderState) (c : ℕ) : Type 0 where
  pub passed : ℕ
  pub progress : Progress false before [] passed after [] (Scalar c ∷ [])
  pub resting : IsTrue (rests after.grammar after.held)
  pub allowed : may_hold after.grammar after.held ≡ true
  pub needs : SameNeeds before.grammar after.grammar
  pub fits : (form : EncodingForm) → unit_count form c ≤ release_need_in form before.grammar
  pub scalar : IsScalar c
  pub lowers : (query : LengthQuery) (n : ℕ) → total_need query after n + unit_count (query_form query) c ≤ total_need query before n

-- ---- the end of input

-- The result of reporting a malformed sequence of `sequence` bytes, with `back` bytes held back after it. Bytes that
-- follow may not change that sequence.
pub record Reports (before : DecoderState) (after : DecoderState) (sequence back : ℕ) : Type 0 where
  pub passed : ℕ
  pub holding : before.held ≢ []
  pub progress : Progress true before [] passed after [] (Bad (passed - sequence) sequence ∷ [])
  pub holds : IsMalformedSequence (passed + length after.held) after sequence back
  pub allowed : may_hold after.grammar after.held ≡ true
  pub lowers : (query : LengthQuery) → total_need query after 0 + replacement_units query ≤ total_need query before 0

-- ---- the end of a call

-- The result of a call after its input, with `free` free code units. It is InputEmpty if there is nothing to report or
-- the call is not the last one, OutputFull if the report lacks its room, and otherwise the report.
abbrev pub Finishes : EncodingForm → DecoderState → Bool → ℕ → DecoderState → DecoderResult → Type 0
Finishes form before last free after InputEmpty = (after ≡ before) × (IsTrue last → events_of before.grammar before.held ≡ [])
Finishes form before last free after OutputFull =
    (after ≡ before) × (last ≡ true) × (events_of before.grammar before.held ≢ []) × (free < release_need_in form before.grammar) × IsCovered before
Finishes form before last free after (Malformed length back) =
    (last ≡ true) × (events_of before.grammar before.held ≢ []) × (release_need_in form before.grammar ≤ free) × Reports before after length back
