-- The bytes that a loop reads ahead of the machine, and the scalars that it writes.
use Rattle.std.specs.{Prelude.{◌≡◌, ℕ, ◌+◌, ◌<◌, ◌≤◌, List, [], ◌∷◌, ◌++◌, length, map, take, All}, Char.IsScalar}
use Rattle.legacy_text.specs.{declared.destination.Destination.Ghosts, EncodingForm.{Utf8, all_code_units, total_unit_count}}
use Rattle.legacy_base.specs.{declared.results.DecodeEvent.TheVariants.Scalar, Events.shift, Grammar.{Grammar, events_of}, States.{DecoderState, new_state}}
use Rattle.legacy_base.specs.Lengths.{LengthQuery, query_form, total_need}
use Rattle.legacy_decoder_engine.specs.{declared.common_forms.CommonForm.{TheVariants.{Single, Pair, Other}, CommonForm}, Moves.SameNeeds}
use Rattle.legacy_decoder_engine.specs.declared.forms.Form.{TheVariants.{Single as OneByte, Pair as TwoBytes, Triple, Four, Marked, Other as NoForm}, Form}

-- Whatever bytes follow, the events of the bytes in the first grammar are these scalars, and then the events of the
-- following bytes in the second grammar. The total need falls by what is written.
pub record YieldsTo (before after : Grammar) (bytes scalars : List ℕ) : Type 0 where
  pub events : (more : List ℕ) → events_of before (bytes ++ more) ≡ map Scalar scalars ++ shift (length bytes) (events_of after more)
  pub scalar : All IsScalar scalars
  pub lowers : (query : LengthQuery) (n : ℕ) →
      total_need query (new_state after) n + total_unit_count (query_form query) scalars ≤ total_need query (new_state before) (n + length bytes)

-- the same without a change of the grammar
abbrev pub Yields : Grammar → List ℕ → List ℕ → Type 0
Yields grammar bytes scalars = YieldsTo grammar grammar bytes scalars

-- each ASCII byte is its own scalar
abbrev pub HasAscii : Grammar → Type 0
HasAscii grammar = (b : ℕ) → b < 0x80 → Yields grammar (b ∷ []) (b ∷ [])

-- a byte that gives one scalar up to U+FFFF
abbrev pub IsSingle : Grammar → ℕ → ℕ → Type 0
IsSingle grammar byte c = (c < 0x1_0000) × Yields grammar (byte ∷ []) (c ∷ [])

-- two bytes that give one scalar up to U+FFFF
abbrev pub IsPair : Grammar → ℕ → ℕ → ℕ → Type 0
IsPair grammar first second c = (c < 0x1_0000) × Yields grammar (first ∷ second ∷ []) (c ∷ [])

-- a codec's result for a byte and the byte after it: a scalar up to U+FFFF, or nothing
abbrev pub IsCommonForm : Grammar → ℕ → ℕ → CommonForm → Type 0
IsCommonForm grammar lead trail (Single c) = IsSingle grammar lead c
IsCommonForm grammar lead trail (Pair c) = IsPair grammar lead trail c
IsCommonForm grammar lead trail Other = Unit {0}

-- what four bytes begin with: a form of one to four of them that gives its scalar, or two below U+0800, or nothing
abbrev pub IsFrontForm : Grammar → ℕ → ℕ → ℕ → ℕ → Form → Type 0
IsFrontForm grammar first second third fourth (OneByte c) = Yields grammar (first ∷ []) (c ∷ [])
IsFrontForm grammar first second third fourth (TwoBytes c) = Yields grammar (first ∷ second ∷ []) (c ∷ [])
IsFrontForm grammar first second third fourth (Triple c) = Yields grammar (first ∷ second ∷ third ∷ []) (c ∷ [])
IsFrontForm grammar first second third fourth (Four c) = Yields grammar (first ∷ second ∷ third ∷ fourth ∷ []) (c ∷ [])
IsFrontForm grammar first second third fourth (Marked c d) = (c < 0x800) × (d < 0x800) × Yields grammar (first ∷ second ∷ []) (c ∷ d ∷ [])
IsFrontForm grammar first second third fourth NoForm = Unit {0}

-- The bytes were read, and their scalars were written after the text before. They took room of their size. The
-- destination is still the same buffer.
pub record WritesTo {D : Type 0} (T : Ghosts D) (before after : Grammar) (bytes : List ℕ) (old new : D) : Type 0 where
  pub scalars : List ℕ
  pub yields : YieldsTo before after bytes scalars
  pub written : T.contents new ≡ T.contents old ++ all_code_units T.form scalars
  pub room : T.room new + total_unit_count T.form scalars ≡ T.room old
  pub loan : T.loan new ≡ T.loan old

-- the same without a change of the grammar
abbrev pub Writes : {D : Type 0} → Ghosts D → Grammar → List ℕ → D → D → Type 0
Writes T grammar bytes old new = WritesTo T grammar grammar bytes old new

-- Bytes at the front of the source were read, and their scalars were written. If any were read, nothing is held back
-- before and after them, at least four code units were free before them, and at least three are free after them. Both
-- states have the same needs.
pub record ReadsTo {D : Type 0} (T : Ghosts D) (before after : DecoderState) (source : List ℕ) (read : ℕ) (old new : D) : Type 0 where
  pub within : read ≤ length source
  pub idle : 0 < read → before.held ≡ []
  pub empties : 0 < read → after.held ≡ []
  pub stays : read ≡ 0 → after ≡ before
  pub needs : SameNeeds before.grammar after.grammar
  pub writes : WritesTo T before.grammar after.grammar (take read source) old new
  pub slack : 0 < read → 3 ≤ T.room new
  pub had : 0 < read → 4 ≤ T.room old

-- the same without a change of the state
abbrev pub ReadsAhead : {D : Type 0} → Ghosts D → DecoderState → List ℕ → ℕ → D → D → Type 0
ReadsAhead T state source read old new = ReadsTo T state state source read old new

-- Bytes at the front of the source were read, and their scalars were written in UTF-8, as `written`, to a buffer of
-- `free` bytes. If any were read, at least four bytes were free before them, and at least three are free after them.
pub record ReadsInto (grammar : Grammar) (source : List ℕ) (free read : ℕ) (written : List ℕ) : Type 0 where
  pub within : read ≤ length source
  pub scalars : List ℕ
  pub yields : Yields grammar (take read source) scalars
  pub bytes : written ≡ all_code_units Utf8 scalars
  pub slack : 0 < read → length written + 3 ≤ free
  pub had : 0 < read → 4 ≤ free
