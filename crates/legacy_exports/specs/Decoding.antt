-- What a decoder writes, in one call and in conversions of a whole source.
use Rattle.std.specs.Prelude.{◌≡◌, ◌≢◌, ℕ, ◌+◌, ◌-◌, ◌<◌, ◌≤◌, List, [], ◌∷◌, ◌++◌, length, drop, Bool, true, IsTrue, ◌⊎◌}
use Rattle.legacy_text.specs.EncodingForm.{EncodingForm, all_code_units}
use Rattle.legacy_base.specs.declared.results.DecodeEvent.{DecodeEvent}
use Rattle.legacy_base.specs.declared.results.DecodeEvent.TheVariants.{Bad}
use Rattle.legacy_base.specs.Grammar.{events_of}
use Rattle.legacy_base.specs.States.{DecoderState, may_hold, rests}
use Rattle.legacy_base.specs.DecoderActs.{LacksRoom, full_need_in}
use Rattle.legacy_base.specs.Calls.{Progress}
use Rattle.legacy_codecs.specs.Replacing.{replaced_scalars, has_malformed, may_replace_end}
use Rattle.legacy_codecs.specs.declared.results.CoderResult.{CoderResult}
use Rattle.legacy_codecs.specs.declared.results.CoderResult.TheVariants.{InputEmpty, OutputFull}
use Rattle.legacy_coders.specs.Coders.{decoder_of}
use Rattle.legacy_exports.specs.NewCoders.{HoldsByNumber}
use Rattle.legacy_exports.specs.Repeated.{RepeatsFrom}
use Rattle.legacy_exports.specs.AcceptedIndexes.{IsRefused, IsTaken}
use Rattle.legacy_exports.specs.declared.indexes.IndexSlices.{IndexSlices}
use Rattle.legacy_exports.specs.declared.calls.CallEnd.{CallEnd}
use Rattle.legacy_exports.specs.declared.calls.CallEnd.TheVariants.{Read, Full, Replaced}

-- ---- one call

-- the calls of a decoder: raw ones, or those with replacement
pub data DecoderKind : Type 0 where
  raw_calls replacing_calls : DecoderKind

-- how a call with replacement ended
abbrev pub end_of : CoderResult → CallEnd
end_of InputEmpty = Read
end_of OutputFull = Full

-- A decoder goes from the state `before` to the state `after`, reads `read` bytes of the source, and writes these code
-- units.
pub record Decodes (form : EncodingForm) (last : Bool) (before : DecoderState) (source : List ℕ) (after : DecoderState)
    (read : ℕ) (written : List ℕ) : Type 0 where
  -- at most the source is read
  pub within : read ≤ length source
  -- the number of bytes, of those held back and of the source, that are done with, and their events
  pub passed : ℕ
  pub out : List DecodeEvent
  -- these, and then the events of what is left, are the grammar's events, whatever bytes follow; after a malformed
  -- sequence at the end of the input, only if the events with those bytes still begin so
  pub progress : Progress (may_replace_end last (has_malformed out) (drop read source)) before source passed after (drop read source) out
  -- the held-back bytes are some that the codec may hold back, if those before were
  pub allowed : IsTrue (may_hold before.grammar before.held) → IsTrue (may_hold after.grammar after.held)
  -- the code units are those of the events, with U+FFFD for each malformed sequence
  pub text : written ≡ all_code_units form (replaced_scalars out)

-- all is read, no scalar is held back, and after a last piece no event is left
abbrev pub IsDecoded : DecoderState → List ℕ → Bool → Type 0
IsDecoded state unread last = (unread ≡ []) × IsTrue (rests state.grammar state.held) × (IsTrue last → events_of state.grammar state.held ≡ [])

-- what the end of a call says of the bytes left, of the code units left free, and of the number that it wrote
abbrev pub DecodingEnds : EncodingForm → DecoderState → List ℕ → Bool → ℕ → ℕ → CallEnd → Type 0
DecodingEnds form state unread last free count Read = IsDecoded state unread last
DecodingEnds form state unread last free count Full = LacksRoom form state unread last free
DecodingEnds form state unread last free count Replaced = 1 ≤ count

-- the events end with a malformed sequence, and the bytes read after it are those held back
pub record EndsMalformed (before after : DecoderState) (read : ℕ) (out : List DecodeEvent) : Type 0 where
  pub earlier : List DecodeEvent
  pub place : ℕ
  pub size : ℕ
  pub is : out ≡ earlier ++ Bad place size ∷ []
  pub seen : place + size + length after.held ≡ length before.held + read

-- what lets a call hold bytes back without room for reading a byte past ASCII: a raw call ended with a malformed
-- sequence, after which it read these bytes; a call with replacement found one
abbrev pub FoundMalformed : DecoderKind → DecoderState → DecoderState → ℕ → List DecodeEvent → Type 0
FoundMalformed raw_calls before after read out = EndsMalformed before after read out
FoundMalformed replacing_calls before after read out = IsTrue (has_malformed out)

-- a call with `free` code units free
pub record DecodingCall (kind : DecoderKind) (form : EncodingForm) (before : DecoderState) (source : List ℕ) (last : Bool) (free : ℕ) (after : DecoderState)
    (end : CallEnd) (read : ℕ) (written : List ℕ) : Type 0 where
  pub decodes : Decodes form last before source after read written
  pub ends : DecodingEnds form after (drop read source) last (free - length written) (length written) end
  -- what was replaced was malformed
  pub replaced : end ≡ Replaced → FoundMalformed kind before after read decodes.out
  -- if a byte was read and bytes are held back, there is room for reading a byte past ASCII, or a sequence was malformed
  pub room_held : 0 < read → after.held ≢ [] →
      FoundMalformed kind before after read decodes.out ⊎ (full_need_in form before.grammar ≤ free - length written)

-- ---- conversions

-- a stage with these bytes read and room for reading a byte past ASCII; no scalar was held back, or it is the end
pub record HadFullRoom (form : EncodingForm) (source : List ℕ) (free : ℕ) (before after : DecoderState) (read : ℕ) : Type 0 where
  pub stage : DecoderState
  pub earlier : List ℕ
  pub decodes : Decodes form true before source stage read earlier
  pub rested : (stage ≡ after) ⊎ IsTrue (rests stage.grammar stage.held)
  pub room : full_need_in form before.grammar ≤ free - length earlier

-- a stage with these bytes read, whose events end with a malformed sequence; the bytes after it are those held back
pub record HadReport (form : EncodingForm) (source : List ℕ) (before : DecoderState) (read : ℕ) (written : List ℕ) : Type 0 where
  pub stage : DecoderState
  pub earlier : List ℕ
  pub decodes : Decodes form true before source stage read earlier
  pub reported : EndsMalformed before stage read decodes.out
  pub sooner : length earlier ≤ length written

-- what lets a conversion hold bytes back without room for reading a byte past ASCII
abbrev pub HadMalformed : DecoderKind → EncodingForm → List ℕ → DecoderState → ℕ → List ℕ → List DecodeEvent → Type 0
HadMalformed raw_calls form source before read written out = HadReport form source before read written
HadMalformed replacing_calls form source before read written out = IsTrue (has_malformed out)

-- One conversion of a whole source writes these code units to an output of `free` code units. It stops if all is
-- decoded, or if the next act lacks its room.
pub record DecodesSource (kind : DecoderKind) (form : EncodingForm) (source : List ℕ) (free : ℕ) (before after : DecoderState) (written : List ℕ) : Type 0 where
  pub read : ℕ
  pub decodes : Decodes form true before source after read written
  pub stops : IsDecoded after (drop read source) true ⊎ LacksRoom form after (drop read source) true (free - length written)
  -- if bytes are held back, none was read, or at some stage those held back directly follow a malformed sequence (after
  -- calls with replacement: there was one), or there was the room for them
  pub room_held : after.held ≢ [] →
      (read ≡ 0) ⊎ (HadMalformed kind form source before read written decodes.out ⊎ HadFullRoom form source free before after read)

-- What a decoder function returns: the number of code units that it wrote, or `usize::MAX` if the number or the indexes
-- are refused.
pub record ReturnsText (kind : DecoderKind) (number : ℕ) (slices : IndexSlices) (form : EncodingForm) (source : List ℕ) (times free : ℕ) (written : List ℕ)
    (result : ℕ) : Type 0 where
  pub either : (result ≤ free) ⊎ (result ≡ 0xFFFF_FFFF_FFFF_FFFF)
  pub taken : IsTaken number slices → (result ≤ free) × HoldsByNumber decoder_of number slices (RepeatsFrom (DecodesSource kind form source free) times written)
  pub refused : IsRefused number slices → result ≡ 0xFFFF_FFFF_FFFF_FFFF
