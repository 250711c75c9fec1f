use Rattle.std.proofs.Common.{◌≡◌, ◌↔◌, ℕ, Option, Some, Result, Err, refl, rules}
use Rattle.legacy_index_files.specs.{declared.index_file.IndexFileError.IndexFileError, declared.index_file.IndexFileError.TheVariants.Line}
use Rattle.std.proofs.{Common.arith, lemmas.Grind.common_steps}
use Rattle.legacy_index_files.proofs.IndexGrammars.{kind_by_grammar}
use Rattle.legacy_index_files.proofs.index_file.read_index.Goals as goal

-- the error has the number of the line that was found
line_is : {T : Type 0} (number : ℕ) (found : Option ℕ) (result : Result T IndexFileError) → found ≡ Some number → result ≡ Err (Line number)
    → (n : ℕ) → (result ≡ Err (Line n)) ↔ (found ≡ Some n)
line_is number found result sound is n = ((λ e. cc), (λ e. cc))

pub returns-in-Err-clause-line : goal.returns-in-Err-clause-line
returns-in-Err-clause-line c = line_is c.in-Err.number _ _ c.in-Err.ensures.sound refl

pub returns-clause-memory : goal.returns-clause-memory
returns-clause-memory c = search rules

pub returns-clause-table : goal.returns-clause-table
returns-clause-table c = grind (arith, common_steps)

pub returns-clause-line : goal.returns-clause-line
returns-clause-line c = grind (arith, common_steps)

pub returns-in-Err-clause-grammar : goal.returns-in-Err-clause-grammar
returns-in-Err-clause-grammar c = kind_by_grammar

pub returns-clause-grammar : goal.returns-clause-grammar
returns-clause-grammar c = kind_by_grammar
