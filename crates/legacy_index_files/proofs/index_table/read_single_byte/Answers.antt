use Rattle.std.proofs.{Common.{ℕ, arith}, lemmas.List.get_or-replicate}
use Rattle.legacy_index_files.proofs.index_table.read_single_byte.Goals as goal

pub returns : goal.returns
returns c =
    record {
      len = omega (arith, c.fill.auto.values);
      at_each = record { at = λ p within. grind (arith, c.fill.auto.values, c.fill.ensures p, get_or-replicate {A = ℕ} 128 p 0 0) };
    }
