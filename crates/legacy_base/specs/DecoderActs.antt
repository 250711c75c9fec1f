-- The next act of a decoder, and the free code units of output that it needs.
use Rattle.std.specs.Prelude.{ℕ, ◌-◌, ◌<◌, ◌≤◌, List, [], ◌∷◌, Option, Some, None, Bool, true}
use Rattle.std.specs.Prelude.{false, not, ◌&&◌, ◌||◌, ◌==◌, if◌then◌else◌, IsTrue, MatchBool, nat_eq}
use Rattle.std.specs.Char.{is_ascii}
use Rattle.legacy_base.specs.declared.results.DecodeEvent.{DecodeEvent}
use Rattle.legacy_text.specs.EncodingForm.{EncodingForm, unit_count, bmp_need, wide_need}
use Rattle.legacy_base.specs.Grammar.{Grammar, profile, events_of}
use Rattle.legacy_base.specs.States.{DecoderState, rests, is_empty}

-- ---- the next act

-- the next act of a decoder: it writes a held-back scalar, reads the byte b, or reports the held-back bytes as
-- malformed at the end of input
pub data Act : Type 0 where
  writes : Act
  takes : (b : ℕ) → Act
  reports : Act

-- at the end of the last call, the held-back bytes are reported if they have events
abbrev pub act_at_end : List DecodeEvent → Bool → Option Act
act_at_end (event ∷ events) true = Some reports
act_at_end _ _ = None

-- the next act if no held-back scalar is to be written
abbrev pub act_at_rest : DecoderState → List ℕ → Bool → Option Act
act_at_rest state (b ∷ unread) last = Some (takes b)
act_at_rest state [] last = act_at_end (events_of state.grammar state.held) last

-- the next act, given the unread bytes and whether the call is the last one
abbrev pub next_act : DecoderState → List ℕ → Bool → Option Act
next_act state unread last =
    if rests state.grammar state.held then act_at_rest state unread last else Some writes

-- ---- needs: `narrow` is the number of code units of the longest scalar up to U+FFFF, `wide` that of the longest scalar

-- the need of reading a byte past ASCII
abbrev pub full_need : ℕ → ℕ → Grammar → ℕ
full_need narrow wide grammar = if (profile grammar).wide_reads then wide else narrow

-- the need of writing a held-back scalar, and of a report at the end of input
abbrev pub release_need : ℕ → ℕ → Grammar → ℕ
release_need narrow wide grammar = if (profile grammar).wide_writes then wide else narrow

-- true for codecs in which an ASCII byte needs one code unit if nothing is held back
abbrev pub has_short_ascii : Grammar → Bool
has_short_ascii grammar = (profile grammar).short_ascii

-- true for a replacement decoder that has reported its error, which needs nothing
abbrev pub has_reported : Grammar → Bool
has_reported grammar = (profile grammar).reported

-- the free code units that an act needs
abbrev pub act_need : ℕ → ℕ → DecoderState → Act → ℕ
act_need narrow wide state writes = release_need narrow wide state.grammar
act_need narrow wide state reports = release_need narrow wide state.grammar
act_need narrow wide state (takes b) =
    if has_reported state.grammar then 0
    else if (is_ascii b && is_empty state.held) && has_short_ascii state.grammar then 1
    else full_need narrow wide state.grammar

-- the need of an act, or 0 if there is none
abbrev pub need_of_act : ℕ → ℕ → DecoderState → Option Act → ℕ
need_of_act narrow wide state None = 0
need_of_act narrow wide state (Some act) = act_need narrow wide state act

-- the free code units that the next act needs, or 0 if there is none
abbrev pub need : ℕ → ℕ → DecoderState → List ℕ → Bool → ℕ
need narrow wide state unread last = need_of_act narrow wide state (next_act state unread last)

-- the free code units that the next act needs in an encoding form
abbrev pub need_in : EncodingForm → DecoderState → List ℕ → Bool → ℕ
need_in form state unread last = need (bmp_need form) (wide_need form) state unread last

-- the next act needs more than is free
abbrev pub LacksRoom : EncodingForm → DecoderState → List ℕ → Bool → ℕ → Type 0
LacksRoom form state unread last free = free < need_in form state unread last

-- ---- the room before each scalar, and after the last act

-- the need, in an encoding form, of reading a byte past ASCII
abbrev pub full_need_in : EncodingForm → Grammar → ℕ
full_need_in form grammar = full_need (bmp_need form) (wide_need form) grammar

-- the need, in an encoding form, of writing a held-back scalar, and of a report at the end of input
abbrev pub release_need_in : EncodingForm → Grammar → ℕ
release_need_in form grammar = release_need (bmp_need form) (wide_need form) grammar

-- what is free after a malformed sequence, at least; if no byte was read, it is the need of a report at the end of input
abbrev pub malformed_need : EncodingForm → Grammar → ℕ → ℕ
malformed_need form grammar read = if nat_eq read 0 then release_need_in form grammar else full_need_in form grammar

-- true for Big5, in which four pairs give a letter and a combining mark
abbrev pub has_marks : Grammar → Bool
has_marks grammar = (profile grammar).marks

-- true if the scalar is one of those marks after one of those letters
abbrev pub is_mark_after : Option ℕ → ℕ → Bool
is_mark_after None c = false
is_mark_after (Some letter) c = (letter == 0xCA || letter == 0xEA) && (c == 0x304 || c == 0x30C)

-- The scalar is written only if there is room for reading a byte past ASCII. Exceptions are ASCII in codecs where it
-- needs one code unit, and a mark after its letter.
abbrev pub wants_full_need : Grammar → Option ℕ → ℕ → Bool
wants_full_need grammar previous c =
    not ((has_short_ascii grammar && is_ascii c) || (has_marks grammar && is_mark_after previous c))

-- what each scalar needs was free before it was written, beginning with the given number of free code units
unfoldable pub HadRoom : EncodingForm → Grammar → Option ℕ → ℕ → List ℕ → Type 0
HadRoom form grammar previous free [] = Unit {0}
HadRoom form grammar previous free (c ∷ scalars) =
    (IsTrue (wants_full_need grammar previous c) → full_need_in form grammar ≤ free)
    × HadRoom form grammar (Some c) (free - unit_count form c) scalars

-- the same if the first scalar was held back
unfoldable pub HadRoomReleased : EncodingForm → Grammar → ℕ → List ℕ → Type 0
HadRoomReleased form grammar free [] = Unit {0}
HadRoomReleased form grammar free (c ∷ scalars) =
    (release_need_in form grammar ≤ free) × HadRoom form grammar (Some c) (free - unit_count form c) scalars

-- the same from a decoder's state
abbrev pub HadRooms : EncodingForm → DecoderState → ℕ → List ℕ → Type 0
HadRooms form state free scalars =
    MatchBool (rests state.grammar state.held)
    (HadRoom form state.grammar None free scalars)
    (HadRoomReleased form state.grammar free scalars)
