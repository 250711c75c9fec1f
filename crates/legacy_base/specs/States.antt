-- A decoder between two calls: its grammar, and the bytes that it holds back.
use Rattle.std.specs.Prelude.{ℕ, ◌+◌, List, [], Bool, ◌&&◌, length}
pub use Rattle.legacy_base.specs.Profile.{is_lead, single_lead_may_hold, is_empty}
pub use Rattle.legacy_base.specs.EucJp.{is_euc_jp_lead, euc_jp_may_hold}
pub use Rattle.legacy_base.specs.Gb18030.{gb18030_may_hold}
pub use Rattle.legacy_base.specs.Iso2022Jp.{is_two_byte_mode, is_escape_second, is_escape_start, is_whole_escape, is_iso_2022_jp_byte}
pub use Rattle.legacy_base.specs.Utf16.{utf16_may_hold}
use Rattle.legacy_base.specs.Grammar.{Grammar, profile}

-- the state of a decoder between two calls
pub record DecoderState : Type 0 where
  pub grammar : Grammar
  pub held : List ℕ

-- a decoder of the grammar that holds these bytes back
abbrev pub state_of : Grammar → List ℕ → DecoderState
state_of grammar held = record { grammar = grammar; held = held }

-- a decoder that holds nothing back
abbrev pub new_state : Grammar → DecoderState
new_state grammar = state_of grammar []

-- ---- held-back bytes

-- the decoder of the grammar may hold back these bytes
abbrev pub may_hold : Grammar → List ℕ → Bool
may_hold grammar bytes = (profile grammar).may_hold bytes

-- The held-back bytes wait for more bytes or for the end. If this is false, they begin with a scalar that is still to
-- be written.
abbrev pub rests : Grammar → List ℕ → Bool
rests grammar bytes = (profile grammar).rests bytes

-- the mode is ASCII in ISO-2022-JP; true in all other codecs
abbrev pub begins_in_ascii : Grammar → Bool
begins_in_ascii grammar = (profile grammar).begins_in_ascii

-- the result of `in_neutral_state`
abbrev pub is_neutral : DecoderState → Bool
is_neutral state = is_empty state.held && begins_in_ascii state.grammar

-- the number that a UTF-16 decoder adds to the bytes to come: one, and the number of held-back bytes
abbrev pub additional_from_state : DecoderState → ℕ
additional_from_state state = 1 + length state.held
