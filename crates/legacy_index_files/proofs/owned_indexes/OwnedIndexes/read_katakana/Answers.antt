use Rattle.legacy_index_files.proofs.owned_indexes.OwnedIndexes.read_katakana.Goals as goal

-- there is a table, so no line is malformed
pub returns-in-Ok-clause-line : goal.returns-in-Ok-clause-line
returns-in-Ok-clause-line c = λ n. ((λ e. cc), (λ e. let none = (c.in-Ok.ensures.line n).1 e in cc))

-- the error is that of the reader
pub returns-in-Err-clause-line : goal.returns-in-Err-clause-line
returns-in-Err-clause-line c = λ n.
    ((λ e. (c.in-Err.ensures.line n).0 (cc)), (λ e. let same = (c.in-Err.ensures.line n).1 e in cc))
