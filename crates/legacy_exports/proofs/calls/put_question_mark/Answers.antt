use Rattle.std.proofs.{Common.{arith, refl, length-set}, lemmas.List.take_more_set}
use Rattle.legacy_exports.proofs.calls.put_question_mark.Goals as goal

pub returns-clause-room : goal.returns-clause-room
returns-clause-room c = (refl, omega (arith, length-set c.args.output.now c.args.at 0x3F))

pub returns-clause-bytes : goal.returns-clause-bytes
returns-clause-bytes c = take_more_set c.args.output.now c.args.at 0x3F (omega arith)
