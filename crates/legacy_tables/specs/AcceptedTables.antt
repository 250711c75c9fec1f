-- Checked tables: flat lists, with the fact that they passed the check.
use Rattle.std.specs.Prelude.{◌≡◌, ℕ, List, length}
use Rattle.legacy_tables.specs.Indexes.{FlatIndexes}
use Rattle.legacy_tables.specs.TableChecks.{AreAccepted, IsAcceptedTable}

-- eight lists as indexes
abbrev pub flat_lists :
    List ℕ → List ℕ → List ℕ → List ℕ → List ℕ → List ℕ → List (ℕ × ℕ) → List (ℕ × ℕ × ℕ) → FlatIndexes
flat_lists big5 euc_kr jis0208 jis0212 gb18030 katakana ranges gb18030_pua = record {
  big5 = big5;
  euc_kr = euc_kr;
  jis0208 = jis0208;
  jis0212 = jis0212;
  gb18030 = gb18030;
  katakana = katakana;
  ranges = ranges;
  gb18030_pua = gb18030_pua;
}

-- indexes that passed the check
pub record AcceptedIndexes : Type 0 where
  pub flat : FlatIndexes
  pub accepted : AreAccepted flat

-- a single-byte table that passed the check: entry p is the scalar of byte 0x80 + p
pub record AcceptedTable : Type 0 where
  pub entries : List ℕ
  pub entry_count : length entries ≡ 128
  pub accepted : IsAcceptedTable entries
