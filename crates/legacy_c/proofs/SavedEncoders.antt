-- The numbers of an encoder's state, before and after a call.
use Rattle.std.proofs.Common.{arith, ◌≡◌, ℕ, false, Option, Some, None, if◌then◌else◌, ◌==◌, option_map}
use Rattle.legacy_base.specs.Encoders.{Codec, EncoderState, iso_2022_jp}
use Rattle.legacy_base.specs.declared.modes.EncoderMode.{EncoderMode, TheVariants.{Ascii, Roman, TwoByte}}
use Rattle.legacy_c.specs.SavedEncoder.{encoder_in, encoder_mode, encoder_mode_number, encoder_of, has_modes, plain_encoder_of}
use Rattle.legacy_c.specs.declared.index_tables.IndexTables.{IndexTables}

-- the encoder of a codec and a mode, by that of a codec without modes
abbrev by_mode : Codec → Option EncoderState → ℕ → ℕ → Option EncoderState
by_mode iso plain codec mode =
    if codec == 6 then option_map (encoder_in iso) (encoder_mode mode)
    else if mode == 0 then plain
    else None

module _ (iso : Codec) (p : Option EncoderState) (no_mode : (s : EncoderState) → p ≡ Some s → (has_modes s.codec ≡ false) × (s.mode ≡ Ascii)) where
  stays : (codec mode : ℕ) (b c : Codec) (n m : EncoderMode) → by_mode iso p codec mode ≡ Some (encoder_in b n) → c ≡ b
      → (has_modes c ≡ false → encoder_mode_number m ≡ 0) → by_mode iso p codec (encoder_mode_number m) ≡ Some (encoder_in c m)
  stays codec mode b c n Ascii e same plain = grind (arith, e, same, plain, no_mode (encoder_in b n))
  stays codec mode b c n Roman e same plain = grind (arith, e, same, plain, no_mode (encoder_in b n))
  stays codec mode b c n TwoByte e same plain = grind (arith, e, same, plain, no_mode (encoder_in b n))

plain_has_no_mode : (tables : IndexTables) (codec : ℕ) (s : EncoderState) → plain_encoder_of tables codec ≡ Some s
    → (has_modes s.codec ≡ false) × (s.mode ≡ Ascii)
plain_has_no_mode tables codec s e = grind (arith, e)

-- the codec stays, and the mode is that of the state after
pub encoder_after : (tables : IndexTables) (codec mode : ℕ) (before after : EncoderState) → encoder_of tables codec mode ≡ Some before
    → after.codec ≡ before.codec → (has_modes after.codec ≡ false → encoder_mode_number after.mode ≡ 0)
    → encoder_of tables codec (encoder_mode_number after.mode) ≡ Some after
encoder_after tables codec mode before after e same plain =
    stays (iso_2022_jp tables.jis0208.now tables.katakana.now) (plain_encoder_of tables codec) (plain_has_no_mode tables codec)
    codec mode before.codec after.codec before.mode after.mode e same plain
