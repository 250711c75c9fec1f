-- Worked examples: bytes and the events that the handlers give for them. The expected events are those of the Standard.
use Rattle.std.specs.Prelude.{◌≡◌, ℕ, List, [], ◌∷◌, map, Some, true, false}
use Rattle.legacy_base.specs.declared.results.DecodeEvent.{DecodeEvent}
use Rattle.legacy_base.specs.declared.results.DecodeEvent.TheVariants.{Scalar, Bad}
use Rattle.legacy_standard.specs.Queue.{Item, Handled}
use Rattle.legacy_standard.specs.Processing.{Malformed, all_read, process}
use Rattle.legacy_standard.specs.SingleByte.{single_byte_handler}
use Rattle.legacy_standard.specs.UserDefined.{user_defined_handler}
use Rattle.legacy_standard.specs.Replacement.{replacement_handler}
use Rattle.legacy_standard.specs.EucKr.{euc_kr_handler}
use Rattle.legacy_standard.specs.Big5.{big5_handler}
use Rattle.legacy_standard.specs.ShiftJis.{shift_jis_handler}
use Rattle.legacy_standard.specs.EucJp.{euc_jp_handler, euc_jp_initial}
use Rattle.legacy_standard.specs.Gb18030.{gb18030_handler, gb18030_initial}
use Rattle.legacy_standard.specs.Utf16.{utf16_handler, utf16_initial}
use Rattle.legacy_standard.specs.Iso2022Jp.{iso_2022_jp_handler, iso_2022_jp_malformed, iso_2022_jp_initial}

-- within 20 turns the handler gives the events of each row for its bytes
abbrev pub Computes : {State : Type 0} → (State → Item → Handled State) → Malformed State → State → List (List ℕ × List DecodeEvent) → Type 0
Computes handler malformed initial rows = map (λ row. process handler malformed 20 initial 0 0 row.0) rows ≡ map (λ row. Some row.1) rows

-- the worked rows of each decoder
pub record ComputeWorkedBytes : Type 0 where
  pub single_byte : Computes (single_byte_handler (0x20AC ∷ [])) all_read tt (
      (0x41 ∷ 0x80 ∷ 0x81 ∷ [], Scalar 0x41 ∷ Scalar 0x20AC ∷ Bad 2 1 ∷ []) ∷ [])
  pub user_defined : Computes user_defined_handler all_read tt (
      (0x61 ∷ 0x80 ∷ 0xFF ∷ [], Scalar 0x61 ∷ Scalar 0xF780 ∷ Scalar 0xF7FF ∷ []) ∷ [])
  pub replacement : Computes replacement_handler all_read false (
      ([], [])
      ∷ (0x41 ∷ 0x42 ∷ [], Bad 0 1 ∷ []) ∷ [])
  pub utf16le : Computes (utf16_handler false) all_read utf16_initial (
      (0x3D ∷ 0xD8 ∷ 0xA9 ∷ 0xDC ∷ [], Scalar 0x1_F4A9 ∷ [])
      ∷ (0x00 ∷ 0xD8 ∷ 0x00 ∷ 0x00 ∷ 0x00 ∷ 0x4E ∷ [], Bad 0 2 ∷ Scalar 0x00 ∷ Scalar 0x4E00 ∷ [])
      ∷ (0x41 ∷ 0x00 ∷ 0x3D ∷ 0xD8 ∷ 0x42 ∷ 0x00 ∷ [], Scalar 0x41 ∷ Bad 2 2 ∷ Scalar 0x42 ∷ [])
      ∷ (0x00 ∷ 0xDC ∷ 0x41 ∷ [], Bad 0 2 ∷ Bad 2 1 ∷ [])
      ∷ (0x00 ∷ 0xD8 ∷ 0x41 ∷ [], Bad 0 3 ∷ []) ∷ [])
  pub utf16be : Computes (utf16_handler true) all_read utf16_initial (
      (0xD8 ∷ 0x3D ∷ 0xDC ∷ 0xA9 ∷ [], Scalar 0x1_F4A9 ∷ [])
      ∷ (0xD8 ∷ 0x00 ∷ 0x00 ∷ 0x41 ∷ [], Bad 0 2 ∷ Scalar 0x41 ∷ []) ∷ [])
  pub euc_kr : Computes (euc_kr_handler (0xAC02 ∷ [])) all_read 0x00 (
      (0x81 ∷ 0xFF ∷ [], Bad 0 2 ∷ [])
      ∷ (0x81 ∷ 0x41 ∷ 0x81 ∷ 0x5B ∷ [], Scalar 0xAC02 ∷ Bad 2 1 ∷ Scalar 0x5B ∷ [])
      ∷ (0x81 ∷ [], Bad 0 1 ∷ []) ∷ [])
  pub big5 : Computes (big5_handler (0x4E00 ∷ [])) all_read 0x00 (
      (0x88 ∷ 0x62 ∷ 0x88 ∷ 0x64 ∷ [], Scalar 0xCA ∷ Scalar 0x304 ∷ Scalar 0xCA ∷ Scalar 0x30C ∷ [])
      ∷ (0x88 ∷ 0xA3 ∷ 0x88 ∷ 0xA5 ∷ [], Scalar 0xEA ∷ Scalar 0x304 ∷ Scalar 0xEA ∷ Scalar 0x30C ∷ [])
      ∷ (0x81 ∷ 0x40 ∷ 0x81 ∷ 0xFF ∷ 0x80 ∷ [], Scalar 0x4E00 ∷ Bad 2 2 ∷ Bad 4 1 ∷ [])
      ∷ (0x87 ∷ 0x66 ∷ [], Bad 0 1 ∷ Scalar 0x66 ∷ []) ∷ [])
  pub shift_jis : Computes (shift_jis_handler (0x3000 ∷ [])) all_read 0x00 (
      (0x81 ∷ 0x40 ∷ 0x80 ∷ 0xA1 ∷ [], Scalar 0x3000 ∷ Scalar 0x80 ∷ Scalar 0xFF61 ∷ [])
      ∷ (0xF0 ∷ 0x40 ∷ 0xF9 ∷ 0xFC ∷ 0xEF ∷ 0xFC ∷ [], Scalar 0xE000 ∷ Scalar 0xE757 ∷ Bad 4 2 ∷ [])
      ∷ (0x81 ∷ 0x3F ∷ 0xA0 ∷ 0x81 ∷ [], Bad 0 1 ∷ Scalar 0x3F ∷ Bad 2 1 ∷ Bad 3 1 ∷ []) ∷ [])
  pub euc_jp : Computes (euc_jp_handler (0x3000 ∷ []) (0x4E02 ∷ [])) all_read euc_jp_initial (
      (0xA1 ∷ 0xA1 ∷ 0x8F ∷ 0xA1 ∷ 0xA1 ∷ 0x8E ∷ 0xA1 ∷ [], Scalar 0x3000 ∷ Scalar 0x4E02 ∷ Scalar 0xFF61 ∷ [])
      ∷ (0x8F ∷ 0xA2 ∷ 0x41 ∷ [], Bad 0 2 ∷ Scalar 0x41 ∷ [])
      ∷ (0x8F ∷ 0xA2 ∷ [], Bad 0 2 ∷ [])
      ∷ (0x8E ∷ 0xE0 ∷ 0xA1 ∷ 0x41 ∷ [], Bad 0 2 ∷ Bad 2 1 ∷ Scalar 0x41 ∷ []) ∷ [])
  pub gb18030 : Computes (gb18030_handler (0x4E02 ∷ []) ((0, 0x80) ∷ (36, 0xA5) ∷ [])) all_read gb18030_initial (
      (0x81 ∷ 0x40 ∷ 0x80 ∷ 0x81 ∷ 0x30 ∷ 0x81 ∷ 0x30 ∷ [], Scalar 0x4E02 ∷ Scalar 0x20AC ∷ Scalar 0x80 ∷ [])
      ∷ (0x94 ∷ 0x39 ∷ 0xDA ∷ 0x33 ∷ 0x81 ∷ 0x35 ∷ 0xF4 ∷ 0x37 ∷ [], Scalar 0x1_F4A9 ∷ Scalar 0xE7C7 ∷ [])
      ∷ (0xE3 ∷ 0x32 ∷ 0x9A ∷ 0x35 ∷ 0xE3 ∷ 0x32 ∷ 0x9A ∷ 0x36 ∷ [], Scalar 0x10_FFFF ∷ Bad 4 4 ∷ [])
      ∷ (0xE3 ∷ 0x32 ∷ 0x9A ∷ 0x00 ∷ [], Bad 0 1 ∷ Scalar 0x32 ∷ Bad 2 1 ∷ Scalar 0x00 ∷ [])
      ∷ (0x81 ∷ 0x30 ∷ 0x41 ∷ [], Bad 0 1 ∷ Scalar 0x30 ∷ Scalar 0x41 ∷ [])
      ∷ (0x81 ∷ 0x30 ∷ 0x81 ∷ [], Bad 0 3 ∷ []) ∷ [])
  pub iso_2022_jp : Computes (iso_2022_jp_handler (0x3000 ∷ [])) iso_2022_jp_malformed iso_2022_jp_initial (
      (0x1B ∷ 0x24 ∷ 0x42 ∷ 0x21 ∷ 0x21 ∷ 0x1B ∷ 0x28 ∷ 0x42 ∷ 0x41 ∷ [], Scalar 0x3000 ∷ Scalar 0x41 ∷ [])
      ∷ (0x1B ∷ 0x28 ∷ 0x4A ∷ 0x5C ∷ 0x7E ∷ 0x1B ∷ 0x28 ∷ 0x49 ∷ 0x21 ∷ [], Scalar 0xA5 ∷ Scalar 0x203E ∷ Scalar 0xFF61 ∷ [])
      ∷ (0x1B ∷ 0x28 ∷ 0x42 ∷ 0x1B ∷ 0x28 ∷ 0x4A ∷ 0x1B ∷ 0x28 ∷ 0x49 ∷ [], Bad 0 3 ∷ Bad 3 3 ∷ [])
      ∷ (0x1B ∷ 0x24 ∷ 0x42 ∷ 0x39 ∷ 0x1B ∷ 0x24 ∷ [], Bad 3 1 ∷ Bad 4 1 ∷ Bad 5 1 ∷ [])
      ∷ (0x1B ∷ 0x41 ∷ 0x0E ∷ 0x1B ∷ [], Bad 0 1 ∷ Scalar 0x41 ∷ Bad 2 1 ∷ Bad 3 1 ∷ [])
      ∷ (0x1B ∷ 0x28 ∷ 0x49 ∷ 0x60 ∷ 0x1B ∷ 0x28 ∷ 0x42 ∷ [], Bad 3 1 ∷ [])
      ∷ (0x1B ∷ 0x24 ∷ 0x40 ∷ 0x21 ∷ 0x22 ∷ 0x21 ∷ 0x80 ∷ [], Bad 3 2 ∷ Bad 5 2 ∷ []) ∷ [])
