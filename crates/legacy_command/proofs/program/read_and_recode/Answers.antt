use Rattle.std.proofs.lemmas.Result.{on_err_weaker, on_ok_weaker}
use Rattle.legacy_command.proofs.ReadingIndexes.{done_by_texts, stops_by_texts}
use Rattle.legacy_command.proofs.program.read_and_recode.Goals as goal

pub returns-clause-well_formed : goal.returns-clause-well_formed
returns-clause-well_formed g c = on_ok_weaker c.check_and_recode.result (λ _. c.in_ok-indexes.ensures.well_formed) c.check_and_recode.ensures.done

pub returns-clause-recoded : goal.returns-clause-recoded
returns-clause-recoded g c = on_ok_weaker c.check_and_recode.result (done_by_texts c.in_ok-indexes.ensures.texts) c.check_and_recode.ensures.done

pub returns-clause-stops : goal.returns-clause-stops
returns-clause-stops g c =
    on_err_weaker c.check_and_recode.result (stops_by_texts c.in_ok-indexes.ensures.texts c.in_ok-indexes.ensures.well_formed) c.check_and_recode.ensures.stops
