use Rattle.std.proofs.{Common.{arith, length-drop}, lemmas.List.drop-drop}
use Rattle.legacy_streams.proofs.FourDigitLines.{front_lines, all_lines}
use Rattle.legacy_streams.proofs.lines.LineBuffer.push_units.Goals as goal

pub surrogates-init : goal.surrogates-init
surrogates-init c = grind (arith, front_lines)

pub surrogates-preserved : goal.surrogates-preserved
surrogates-preserved c = grind (arith, front_lines, drop-drop, length-drop)

pub returns-clause-text : goal.returns-clause-text
returns-clause-text c = all_lines _ _ c.args.units.now c.surrogates.place (omega arith) c.surrogates.invariant.text
