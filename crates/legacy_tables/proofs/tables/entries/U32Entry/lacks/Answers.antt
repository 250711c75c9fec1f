use Rattle.std.proofs.{Common.{◌+◌, ap, inl, inr, not, arith}, lemmas.Bool.cases_lt}
use Rattle.legacy_tables.proofs.SearchedBlocks.{not-contained}
use Rattle.legacy_tables.proofs.tables.entries.U32Entry.lacks.Goals as goal

pub returns-then-number-gt4294967295 : goal.returns-then-number-gt4294967295
returns-then-number-gt4294967295 c = grind arith

pub returns : goal.returns
returns c = λ is k l h. elim (cases_lt k (c.args.from + 16)) [
  | inl m ↦ not-contained c.args.entries.now c.args.from (c.args.from + 16) _ (omega (arith, c.requires)) c.contains.result c.contains.ensures.value
      (ap not c.if-contains.false) k l m
  | inr m ↦ not-contained c.args.entries.now (c.args.from + 16) (c.args.from + 32) _ c.requires c.contains-2.result c.contains-2.ensures.value is k m h
]
