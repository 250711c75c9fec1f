-- Worked examples: texts and the events that the encoders' handlers give for them. The expected events are those of the
-- Standard.
use Rattle.std.specs.Prelude.{◌≡◌, ℕ, List, [], ◌∷◌, ◌++◌, map, replicate, Some, true, false}
use Rattle.legacy_base.specs.declared.results.EncodeEvent.{EncodeEvent}
use Rattle.legacy_base.specs.declared.results.EncodeEvent.TheVariants.{Byte, Unmappable}
use Rattle.legacy_base.specs.Encoders as codecs
use Rattle.legacy_base.specs.Encoders.{Codec, new_encoder, encoded}
use Rattle.legacy_standard.specs.TextQueue.{TextItem, TextHandled, by_scalar, process}
use Rattle.legacy_standard.specs.SingleByteEncoder.{single_byte_encodes}
use Rattle.legacy_standard.specs.UserDefinedEncoder.{user_defined_encodes}
use Rattle.legacy_standard.specs.EucKrEncoder.{euc_kr_encodes}
use Rattle.legacy_standard.specs.Big5Encoder.{big5_encodes}
use Rattle.legacy_standard.specs.ShiftJisEncoder.{shift_jis_encodes}
use Rattle.legacy_standard.specs.EucJpEncoder.{euc_jp_encodes}
use Rattle.legacy_standard.specs.Gb18030Encoder.{gb18030_encodes}
use Rattle.legacy_standard.specs.Iso2022JpEncoder.{ascii, iso_2022_jp_encodes}
use Rattle.legacy_standard.specs.EncoderLaw.{HasPointers}

-- within 20 turns the handler gives the events of each row for its text
abbrev pub Computes : {State : Type 0} → (State → TextItem → TextHandled State) → State → List (List ℕ × List EncodeEvent) → Type 0
Computes handler initial rows = map (λ row. process handler 20 initial row.0) rows ≡ map (λ row. Some row.1) rows

-- for one scalar the handler gives the first events, and the codec's encoder the second
abbrev pub Differs : {State : Type 0} → (State → TextItem → TextHandled State) → State → Codec → ℕ → List EncodeEvent → List EncodeEvent → Type 0
Differs handler initial codec c handled events =
    (process handler 20 initial (c ∷ []) ≡ Some handled) × (encoded (new_encoder codec) (c ∷ []) true ≡ events)

-- an index with one entry, at this pointer
abbrev pub entry_at : ℕ → ℕ → List ℕ
entry_at pointer c = replicate pointer 0 ++ c ∷ []

-- the worked rows of each encoder
pub record ComputeWorkedTexts : Type 0 where
  pub single_byte : Computes (by_scalar (single_byte_encodes (entry_at 65 0x391))) tt (
      (0x391 ∷ 0x1_F4A9 ∷ 0x41 ∷ [], Byte 0xC1 ∷ Unmappable 0x1_F4A9 ∷ Byte 0x41 ∷ []) ∷ [])
  pub user_defined : Computes (by_scalar user_defined_encodes) tt (
      (0x61 ∷ 0xF780 ∷ 0xF7FF ∷ 0x80 ∷ [], Byte 0x61 ∷ Byte 0x80 ∷ Byte 0xFF ∷ Unmappable 0x80 ∷ []) ∷ [])
  pub euc_kr : Computes (by_scalar (euc_kr_encodes (entry_at 190 0xAC02))) tt (
      (0xAC02 ∷ 0xAC00 ∷ [], Byte 0x82 ∷ Byte 0x41 ∷ Unmappable 0xAC00 ∷ []) ∷ [])
  pub big5 : Computes (by_scalar (big5_encodes (0x4E00 ∷ []))) tt (
      (0x7F ∷ 0x4E00 ∷ [], Byte 0x7F ∷ Unmappable 0x4E00 ∷ []) ∷ [])
  -- two scalars with two pointers each, 5024 to 5027: the last one is written for U+2550, the first one for U+4E00
  pub big5_pointers : Computes (by_scalar (big5_encodes (replicate 5024 0 ++ 0x2550 ∷ 0x2550 ∷ 0x4E00 ∷ 0x4E00 ∷ []))) tt (
      (0x2550 ∷ 0x4E00 ∷ [], Byte 0xA1 ∷ Byte 0x41 ∷ Byte 0xA1 ∷ Byte 0x42 ∷ []) ∷ [])
  pub shift_jis : Computes (by_scalar (shift_jis_encodes (entry_at 60 0xFF0D))) tt (
      (0x80 ∷ 0xA5 ∷ 0x203E ∷ 0xFF9F ∷ [], Byte 0x80 ∷ Byte 0x5C ∷ Byte 0x7E ∷ Byte 0xDF ∷ [])
      ∷ (0x2212 ∷ 0xFF0D ∷ [], Byte 0x81 ∷ Byte 0x7C ∷ Byte 0x81 ∷ Byte 0x7C ∷ []) ∷ [])
  -- pointers 8272 to 8835 are not used
  pub shift_jis_pointers : Computes (by_scalar (shift_jis_encodes (entry_at 8272 0x4E00))) tt (
      (0x4E00 ∷ [], Unmappable 0x4E00 ∷ []) ∷ [])
  pub euc_jp : Computes (by_scalar (euc_jp_encodes (entry_at 60 0xFF0D))) tt (
      (0xA5 ∷ 0x203E ∷ 0xFF61 ∷ 0x2212 ∷ 0x80 ∷ [], Byte 0x5C ∷ Byte 0x7E ∷ Byte 0x8E ∷ Byte 0xA1 ∷ Byte 0xA1 ∷ Byte 0xDD ∷ Unmappable 0x80 ∷ []) ∷ [])
  pub gb18030 : Computes (by_scalar (gb18030_encodes false (0x4E02 ∷ []) ((39394, 0xFFE6) ∷ []) ((0xE81E, 0xFE, 0x59) ∷ []))) tt (
      (0xFFFD ∷ 0xE7C7 ∷ [], Byte 0x84 ∷ Byte 0x31 ∷ Byte 0xA4 ∷ Byte 0x37 ∷ Byte 0x81 ∷ Byte 0x35 ∷ Byte 0xF4 ∷ Byte 0x37 ∷ [])
      ∷ (0x10_FFFF ∷ 0xE5E5 ∷ [], Byte 0xE3 ∷ Byte 0x32 ∷ Byte 0x9A ∷ Byte 0x35 ∷ Unmappable 0xE5E5 ∷ [])
      ∷ (0xE81E ∷ 0x4E02 ∷ 0x20AC ∷ [], Byte 0xFE ∷ Byte 0x59 ∷ Byte 0x81 ∷ Byte 0x40 ∷ Unmappable 0x20AC ∷ []) ∷ [])
  pub gbk : Computes (by_scalar (gb18030_encodes true (0x4E02 ∷ []) ((39394, 0xFFE6) ∷ []) ((0xE81E, 0xFE, 0x59) ∷ []))) tt (
      (0x20AC ∷ 0xE81E ∷ 0x4E02 ∷ 0xFFFD ∷ [], Byte 0x80 ∷ Byte 0xFE ∷ Byte 0x59 ∷ Byte 0x81 ∷ Byte 0x40 ∷ Unmappable 0xFFFD ∷ []) ∷ [])
  pub iso_2022_jp : Computes (iso_2022_jp_encodes (0x58FA ∷ 0xFF0D ∷ 0x3002 ∷ []) (0x3002 ∷ [])) ascii ((
    0x61 ∷ 0xA5 ∷ 0x62 ∷ 0x5C ∷ [],
    Byte 0x61 ∷ Byte 0x1B ∷ Byte 0x28 ∷ Byte 0x4A ∷ Byte 0x5C ∷ Byte 0x62 ∷ Byte 0x1B ∷ Byte 0x28 ∷ Byte 0x42 ∷ Byte 0x5C ∷ [],
  )
      ∷ (0x58FA ∷ 0x1_F4A9 ∷ [], Byte 0x1B ∷ Byte 0x24 ∷ Byte 0x42 ∷ Byte 0x21 ∷ Byte 0x21 ∷ Byte 0x1B ∷ Byte 0x28 ∷ Byte 0x42 ∷ Unmappable 0x1_F4A9 ∷ [])
      ∷ (0x2212 ∷ 0xFF61 ∷ [], Byte 0x1B ∷ Byte 0x24 ∷ Byte 0x42 ∷ Byte 0x21 ∷ Byte 0x22 ∷ Byte 0x21 ∷ Byte 0x23 ∷ Byte 0x1B ∷ Byte 0x28 ∷ Byte 0x42 ∷ [])
      ∷ (0x1B ∷ 0x0E ∷ [], Unmappable 0xFFFD ∷ Unmappable 0xFFFD ∷ []) ∷ [])

-- The smallest indexes that lack a pointer of `HasPointers`. The handler's events differ from the encoder's.
pub record PartWithoutPointers : Type 0 where
  -- no U+FF0D
  pub shift_jis : Differs (by_scalar (shift_jis_encodes [])) tt (codecs.shift_jis []) 0x2212 (Unmappable 0xFF0D ∷ []) (Unmappable 0x2212 ∷ [])
  pub euc_jp : Differs (by_scalar (euc_jp_encodes [])) tt (codecs.euc_jp [] []) 0x2212 (Unmappable 0xFF0D ∷ []) (Unmappable 0x2212 ∷ [])
  pub iso_2022_jp : Differs (iso_2022_jp_encodes [] []) ascii (codecs.iso_2022_jp [] []) 0x2212 (Unmappable 0xFF0D ∷ []) (Unmappable 0x2212 ∷ [])
  -- an entry of the katakana index without a pointer in index jis0208
  pub katakana : Differs (iso_2022_jp_encodes [] (0x3002 ∷ [])) ascii (codecs.iso_2022_jp [] (0x3002 ∷ [])) 0xFF61
      (Unmappable 0x3002 ∷ []) (Unmappable 0xFF61 ∷ [])
  -- an entry that is the overline, with a pointer: the handler writes it in Roman
  pub overline : Differs (iso_2022_jp_encodes (0x203E ∷ []) (0x203E ∷ [])) ascii (codecs.iso_2022_jp (0x203E ∷ []) (0x203E ∷ [])) 0xFF61
      (Byte 0x1B ∷ Byte 0x24 ∷ Byte 0x42 ∷ Byte 0x1B ∷ Byte 0x28 ∷ Byte 0x4A ∷ Byte 0x7E ∷ Byte 0x1B ∷ Byte 0x28 ∷ Byte 0x42 ∷ [])
      (Byte 0x1B ∷ Byte 0x24 ∷ Byte 0x42 ∷ Byte 0x21 ∷ Byte 0x21 ∷ Byte 0x1B ∷ Byte 0x28 ∷ Byte 0x42 ∷ [])
  -- an entry that is the minus sign, with a pointer: the handler restores it, and then writes it as U+FF0D
  pub minus : Differs (iso_2022_jp_encodes (0x2212 ∷ 0xFF0D ∷ []) (0x2212 ∷ [])) ascii (codecs.iso_2022_jp (0x2212 ∷ 0xFF0D ∷ []) (0x2212 ∷ [])) 0xFF61
      (Byte 0x1B ∷ Byte 0x24 ∷ Byte 0x42 ∷ Byte 0x21 ∷ Byte 0x22 ∷ Byte 0x1B ∷ Byte 0x28 ∷ Byte 0x42 ∷ [])
      (Byte 0x1B ∷ Byte 0x24 ∷ Byte 0x42 ∷ Byte 0x21 ∷ Byte 0x21 ∷ Byte 0x1B ∷ Byte 0x28 ∷ Byte 0x42 ∷ [])
  -- an entry that is a half-width katakana, with a pointer: the handler restores it, and it has no entry of its own
  pub half_width : Differs (iso_2022_jp_encodes (0xFF62 ∷ []) (0xFF62 ∷ [])) ascii (codecs.iso_2022_jp (0xFF62 ∷ []) (0xFF62 ∷ [])) 0xFF61
      (Byte 0x1B ∷ Byte 0x24 ∷ Byte 0x42 ∷ Byte 0x1B ∷ Byte 0x28 ∷ Byte 0x42 ∷ Unmappable 0xFF62 ∷ [])
      (Byte 0x1B ∷ Byte 0x24 ∷ Byte 0x42 ∷ Byte 0x21 ∷ Byte 0x21 ∷ Byte 0x1B ∷ Byte 0x28 ∷ Byte 0x42 ∷ [])
  -- a scalar whose only pointer is after the 94 rows: the handler's bytes decode to an error
  pub row : Differs (by_scalar (euc_jp_encodes (entry_at 8836 0x4E00))) tt (codecs.euc_jp (entry_at 8836 0x4E00) []) 0x4E00
      (Byte 0xFF ∷ Byte 0xA1 ∷ []) (Unmappable 0x4E00 ∷ [])
  -- a scalar past the last pointer of the ranges
  pub gb18030 : Differs (by_scalar (gb18030_encodes false [] ((0, 0x80) ∷ []) [])) tt (codecs.gb18030 [] ((0, 0x80) ∷ []) []) 0x9A7C
      (Byte 0x84 ∷ Byte 0x31 ∷ Byte 0xA5 ∷ Byte 0x30 ∷ []) (Unmappable 0x9A7C ∷ [])

-- small tables that have these pointers; no small table of gb18030 has them
pub record HavePointers : Type 0 where
  pub shift_jis : HasPointers (codecs.shift_jis (entry_at 60 0xFF0D))
  pub euc_jp : HasPointers (codecs.euc_jp (entry_at 60 0xFF0D) [])
  pub iso_2022_jp : HasPointers (codecs.iso_2022_jp (0xFF0D ∷ 0x3002 ∷ []) (replicate 63 0x3002))
