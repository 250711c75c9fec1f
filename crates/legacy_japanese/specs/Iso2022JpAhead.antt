-- What the ISO-2022-JP decoder reads ahead.
use Rattle.std.specs.{Prelude.{None, ◌≡◌, ◌≢◌, ℕ, ◌<◌, ◌≤◌, ◌-◌, ◌*◌, if◌then◌else◌, List, [], ◌∷◌, length, take, get_or}, Int.is_in_range}
use Rattle.legacy_base.specs.declared.modes.DecoderMode.{DecoderMode}
use Rattle.legacy_japanese.specs.declared.iso_2022_jp.bytes.{Start.TheVariants.Nothing, Held.TheVariants.Begun, Escape.Escape}
use Rattle.{legacy_japanese.specs.Iso2022JpMachine.{second_of, third_of, state_in}, legacy_text.specs.declared.destination.Destination.Ghosts}
use Rattle.{legacy_decoder_engine.specs.ReadAhead.ReadsTo, legacy_base.specs.{States.DecoderState, Iso2022Jp.esc}}

-- an ASCII byte that is itself in ASCII mode, and not the escape byte
abbrev pub IsAsciiText : ℕ → Type 0
IsAsciiText b = (b < 0x80) × (b ≢ 0x0E) × (b ≢ 0x0F) × (b ≢ esc)

-- a mode, with nothing held back
abbrev pub begun_state : List ℕ → DecoderMode → DecoderState
begun_state jis0208 mode = state_in jis0208 mode (Begun None Nothing)

-- bytes at the front of the source are read from the first mode to the last one, and their scalars are written
abbrev pub ReadsModes : {D : Type 0} → Ghosts D → List ℕ → DecoderMode → DecoderMode → List ℕ → ℕ → D → D → Type 0
ReadsModes T jis0208 first last source read old new = ReadsTo T (begun_state jis0208 first) (begun_state jis0208 last) source read old new

-- the bytes begin with the escape
pub record BeginsEscape (escape : Escape) (bytes : List ℕ) : Type 0 where
  pub within : 3 ≤ length bytes
  pub begins : take 3 bytes ≡ esc ∷ second_of escape ∷ third_of escape ∷ []

-- the bytes begin with the escape, and the byte after it is not the escape byte
pub record HasEscape (escape : Escape) (bytes : List ℕ) : Type 0 where
  pub within : 3 < length bytes
  pub begins : take 3 bytes ≡ esc ∷ second_of escape ∷ third_of escape ∷ []
  pub alone : get_or bytes 3 0 ≢ esc

-- The place of a byte of a pair: in two-byte mode the pair's pointer is the sum of its lead's place with 94 and its trail's
-- with 1. Any other byte has a place past the end of the index.
unfoldable pub jis_place : ℕ → ℕ → ℕ
jis_place width byte = if is_in_range 0x21 0x7E byte then (byte - 0x21) * width else 65535
