use Rattle.std.proofs.lemmas.{Grind.common_steps, Bool.{both_ways, cases_lt, or_cases, or_parts, eqb-false, ne_eqb}, List.Folds.list_any_more}
use Rattle.{std.proofs.Common.{take_all, arith}, legacy_encoder_engine.proofs.CachedPairs.asked}
use Rattle.legacy_chinese.proofs.gb18030.list.ask_rows.Goals as goal

pub loop-row-preserved : goal.loop-row-preserved
loop-row-preserved g c = grind (arith, common_steps, list_any_more, asked, or_cases, both_ways, ne_eqb, or_parts, cases_lt, eqb-false)

pub returns : goal.returns
returns g c = rw (take_all c.loop-row.row-index c.args.rows.now c.loop-row-test.false) at c.loop-row.invariant
