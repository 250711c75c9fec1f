-- The state of a decoder as the numbers that a caller keeps.
use Rattle.std.specs.Prelude.{◌≡◌, ◌≢◌, ◌⊎◌, ℕ, ◌≤◌, Bool, true, false, Option, Some, None, take, map, if◌then◌else◌, ◌==◌, option_map}
use Rattle.legacy_base.specs.Grammar.{Grammar, single_byte, user_defined, replacement, utf16, big5, shift_jis, euc_jp, gb18030, iso_2022_jp}
use Rattle.legacy_base.specs.EucKr.{euc_kr}
use Rattle.legacy_base.specs.States.{DecoderState, may_hold}
use Rattle.legacy_base.specs.declared.modes.DecoderMode.{DecoderMode, TheVariants.{Ascii, Roman, Katakana, TwoByte}}
use Rattle.legacy_c.specs.Lists.{range_pair}
use Rattle.legacy_c.specs.declared.index_tables.IndexTables.{IndexTables}
use Rattle.legacy_c.specs.declared.saved.SavedDecoder.{SavedDecoder}

-- the mode of ISO-2022-JP of a number
abbrev pub decoder_mode : ℕ → Option DecoderMode
decoder_mode number =
    if number == 0 then Some Ascii
    else if number == 1 then Some Roman
    else if number == 2 then Some Katakana
    else if number == 3 then Some TwoByte
    else None

-- the replacement decoder of a number: 1 after its report
abbrev pub replacement_of : ℕ → Option Grammar
replacement_of number =
    if number == 0 then Some (replacement false)
    else if number == 1 then Some (replacement true)
    else None

-- the grammar of a codec without modes
abbrev pub plain_grammar : IndexTables → ℕ → Option Grammar
plain_grammar tables codec =
    if codec == 1 then Some (single_byte tables.single_byte.now)
    else if codec == 2 then Some (gb18030 tables.gb18030.now (map range_pair tables.ranges.now))
    else if codec == 3 then Some (gb18030 tables.gb18030.now (map range_pair tables.ranges.now))
    else if codec == 4 then Some (big5 tables.big5.now)
    else if codec == 5 then Some (euc_jp tables.jis0208.now tables.jis0212.now)
    else if codec == 7 then Some (shift_jis tables.jis0208.now)
    else if codec == 8 then Some (euc_kr tables.euc_kr.now)
    else if codec == 10 then Some (utf16 true)
    else if codec == 11 then Some (utf16 false)
    else if codec == 12 then Some user_defined
    else None

-- the grammar of a codec and a mode, over the caller's indexes
abbrev pub grammar_of : IndexTables → ℕ → ℕ → Option Grammar
grammar_of tables codec mode =
    if codec == 6 then option_map (iso_2022_jp tables.jis0208.now) (decoder_mode mode)
    else if codec == 9 then replacement_of mode
    else if mode == 0 then plain_grammar tables codec
    else None

-- the number of a mode of ISO-2022-JP
abbrev pub mode_number : DecoderMode → ℕ
mode_number Ascii = 0
mode_number Roman = 1
mode_number Katakana = 2
mode_number TwoByte = 3

-- the number of a grammar's mode
abbrev pub grammar_mode : Grammar → ℕ
grammar_mode (iso_2022_jp jis0208 mode) = mode_number mode
grammar_mode (replacement true) = 1
grammar_mode _ = 0

-- the numbers are those of a decoder in the state
pub record Saves (tables : IndexTables) (saved : SavedDecoder) (state : DecoderState) : Type 0 where
  pub grammar : grammar_of tables saved.codec saved.mode ≡ Some state.grammar
  pub few : saved.count ≤ 5
  pub held : state.held ≡ take saved.count saved.held
  pub may : may_hold state.grammar state.held ≡ true

-- the numbers are those of no decoder
abbrev pub SavesNone : IndexTables → SavedDecoder → Type 0
SavesNone tables saved = (state : DecoderState) → Saves tables saved state → ⊥

-- a codec that reads the seven indexes
abbrev pub uses_indexes : ℕ → Bool
uses_indexes codec =
    if codec == 2 then true else if codec == 3 then true else if codec == 4 then true else if codec == 5 then true
    else if codec == 6 then true else if codec == 7 then true else codec == 8

-- the indexes that the codec reads were not checked
abbrev pub IsUnchecked : IndexTables → ℕ → Type 0
IsUnchecked tables codec = ((uses_indexes codec ≡ true) × (tables.checked ≢ 1)) ⊎ ((codec ≡ 1) × (tables.single_byte_checked ≢ 1))

-- a call is refused: the indexes were not checked, or the numbers are those of no decoder
abbrev pub IsRefused : IndexTables → SavedDecoder → Type 0
IsRefused tables saved = IsUnchecked tables saved.codec ⊎ SavesNone tables saved

-- the numbers go from those of one state to those of another, between which this holds
pub record Changes (tables : IndexTables) (old new : SavedDecoder) (Between : DecoderState → DecoderState → Type 0) : Type 0 where
  pub before : DecoderState
  pub after : DecoderState
  pub saved_before : Saves tables old before
  pub saved_after : Saves tables new after
  pub between : Between before after

-- the numbers of a new decoder of a codec
abbrev pub IsNewDecoder : ℕ → SavedDecoder → Type 0
IsNewDecoder codec saved = (saved.codec ≡ codec) × (saved.mode ≡ 0) × (saved.count ≡ 0)
