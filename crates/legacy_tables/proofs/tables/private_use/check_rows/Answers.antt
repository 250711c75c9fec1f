use Rattle.std.proofs.Common.{◌∙◌, refl, arith}
use Rattle.legacy_tables.proofs.TableLoops.{rows_next, rows_end}
use Rattle.legacy_tables.proofs.tables.private_use.check_rows.Goals as goal

pub returns-in-Some : goal.returns-in-Some
returns-in-Some c = c.loop-place.invariant ∙ rows_next _ _ _ c.loop-place-test.true ∙ rw (← c.fault_of.ensures, c.in-Some.is) refl

pub loop-place-preserved : goal.loop-place-preserved
loop-place-preserved c = c.loop-place.invariant ∙ rows_next _ _ _ c.loop-place-test.true ∙ rw (← c.fault_of.ensures, c.in-None.is) refl

pub returns : goal.returns
returns c = grind (arith, rows_end c.args.rows.now c.loop-place.place)
