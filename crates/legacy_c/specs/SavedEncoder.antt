-- The state of an encoder as the numbers that a caller keeps.
use Rattle.std.specs.Prelude.{◌≡◌, ◌⊎◌, ℕ, Bool, true, false, Option, Some, None, map, if◌then◌else◌, ◌==◌, option_map}
use Rattle.legacy_base.specs.Encoders.{Codec, EncoderState, new_encoder, single_byte, user_defined, big5, euc_kr, shift_jis, euc_jp, gb18030, gbk, iso_2022_jp}
use Rattle.legacy_base.specs.declared.modes.EncoderMode.{EncoderMode, TheVariants.{Ascii, Roman, TwoByte}}
use Rattle.legacy_tables.specs.declared.tables.private_use.TheConstants.{GB18030_2022_PUA}
use Rattle.legacy_c.specs.Lists.{range_pair}
use Rattle.legacy_c.specs.Saved.{IsUnchecked}
use Rattle.legacy_c.specs.declared.index_tables.IndexTables.{IndexTables}
use Rattle.legacy_c.specs.declared.saved.SavedEncoder.{SavedEncoder}

-- the mode of a number
abbrev pub encoder_mode : ℕ → Option EncoderMode
encoder_mode number =
    if number == 0 then Some Ascii
    else if number == 1 then Some Roman
    else if number == 2 then Some TwoByte
    else None

-- the number of a mode
abbrev pub encoder_mode_number : EncoderMode → ℕ
encoder_mode_number Ascii = 0
encoder_mode_number Roman = 1
encoder_mode_number TwoByte = 2

-- an encoder in this mode
abbrev pub encoder_in : Codec → EncoderMode → EncoderState
encoder_in codec mode = record { codec = codec; mode = mode }

-- a new encoder of a codec without modes
abbrev pub plain_encoder_of : IndexTables → ℕ → Option EncoderState
plain_encoder_of tables codec =
    if codec == 1 then Some (new_encoder (single_byte tables.single_byte.now))
    else if codec == 2 then Some (new_encoder (gbk tables.gb18030.now (map range_pair tables.ranges.now) GB18030_2022_PUA))
    else if codec == 3 then Some (new_encoder (gb18030 tables.gb18030.now (map range_pair tables.ranges.now) GB18030_2022_PUA))
    else if codec == 4 then Some (new_encoder (big5 tables.big5.now))
    else if codec == 5 then Some (new_encoder (euc_jp tables.jis0208.now tables.jis0212.now))
    else if codec == 7 then Some (new_encoder (shift_jis tables.jis0208.now))
    else if codec == 8 then Some (new_encoder (euc_kr tables.euc_kr.now))
    else if codec == 12 then Some (new_encoder user_defined)
    else None

-- the encoder of a codec and a mode, over the caller's indexes
abbrev pub encoder_of : IndexTables → ℕ → ℕ → Option EncoderState
encoder_of tables codec mode =
    if codec == 6 then option_map (encoder_in (iso_2022_jp tables.jis0208.now tables.katakana.now)) (encoder_mode mode)
    else if mode == 0 then plain_encoder_of tables codec
    else None

-- the numbers are those of an encoder in the state
abbrev pub SavesEncoder : IndexTables → SavedEncoder → EncoderState → Type 0
SavesEncoder tables saved state = encoder_of tables saved.codec saved.mode ≡ Some state

-- a call is refused: the indexes were not checked, or the numbers are those of no encoder
abbrev pub IsEncoderRefused : IndexTables → SavedEncoder → Type 0
IsEncoderRefused tables saved = IsUnchecked tables saved.codec ⊎ (encoder_of tables saved.codec saved.mode ≡ None)

-- the codec has modes
abbrev pub has_modes : Codec → Bool
has_modes (iso_2022_jp jis0208 katakana) = true
has_modes _ = false

-- the numbers go from those of one state to those of another, between which this holds
pub record EncoderChanges (tables : IndexTables) (old new : SavedEncoder) (Between : EncoderState → EncoderState → Type 0) : Type 0 where
  pub before : EncoderState
  pub after : EncoderState
  pub saved_before : SavesEncoder tables old before
  pub saved_after : SavesEncoder tables new after
  pub between : Between before after

-- the numbers of a new encoder of a codec
abbrev pub IsNewEncoder : ℕ → SavedEncoder → Type 0
IsNewEncoder codec saved = (saved.codec ≡ codec) × (saved.mode ≡ 0)
