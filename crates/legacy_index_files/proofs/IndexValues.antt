-- The steps of filling a table.
use Rattle.std.proofs.Common.{◌≡◌, ℕ, ◌<◌, ◌≤◌, List, ◌∷◌, length, set, get_or, sym, ◌∙◌, ap, arith}
use Rattle.std.proofs.{lemmas.Grind.common_steps, lemmas.Bool.Decides.nat_tests}
use Rattle.std.specs.Option.{unwrap_or}
use Rattle.legacy_index_files.specs.{declared.index_line.LineKind.TheVariants.Entry, declared.index_file.EncoderIndex.EncoderIndex, IndexLine.lines}
use Rattle.legacy_index_files.specs.IndexTable.{says, file_entries, with_entry, table_length, last_value}

-- writing an entry before the later ones
pub fills_entry : (entries : List (ℕ × ℕ)) (values : List ℕ) (pointer value p : ℕ) → pointer < length values
    → unwrap_or (last_value entries p) (get_or (set values pointer value) p 0) ≡ unwrap_or (last_value ((pointer, value) ∷ entries) p) (get_or values p 0)
fills_entry entries values pointer value p within = grind (arith, nat_tests, common_steps)

-- writing the entry of a line before those of the later lines
pub record FillsLine (name : EncoderIndex) (rest after : List ℕ) (values : List ℕ) (pointer value : ℕ) : Type 0 where
  pub room : table_length (file_entries name (lines after)) ≤ length values
  pub within : pointer < length values
  pub at_each : (p : ℕ) → unwrap_or (last_value (file_entries name (lines after)) p) (get_or (set values pointer value) p 0)
      ≡ unwrap_or (last_value (file_entries name (lines rest)) p) (get_or values p 0)

pub fills_line : (name : EncoderIndex) (line rest after values : List ℕ) (pointer value : ℕ) → lines rest ≡ line ∷ lines after
    → Entry pointer value ≡ says name line → table_length (file_entries name (lines rest)) ≤ length values
    → FillsLine name rest after values pointer value
fills_line name line rest after values pointer value first said fits =
    let others = file_entries name (lines after) in
    let split : file_entries name (lines rest) ≡ (pointer, value) ∷ others =
    ap (file_entries name) first ∙ ap (λ kind. with_entry kind others) (sym said) in
    grind (arith, split, fills_entry others values pointer value)
