use Rattle.std.proofs.lemmas.Result.{on_err_weaker, on_ok_weaker}
use Rattle.legacy_command.proofs.ReadingIndexes.{done_by_texts, stops_by_texts}
use Rattle.legacy_command.proofs.encode_program.read_and_encode.Goals as goal

pub returns-clause-well_formed : goal.returns-clause-well_formed
returns-clause-well_formed g c = on_ok_weaker c.check_and_encode.result (λ _. c.in_ok-indexes.ensures.well_formed) c.check_and_encode.ensures.done

pub returns-clause-encoded : goal.returns-clause-encoded
returns-clause-encoded g c = on_ok_weaker c.check_and_encode.result (done_by_texts c.in_ok-indexes.ensures.texts) c.check_and_encode.ensures.done

pub returns-clause-stops : goal.returns-clause-stops
returns-clause-stops g c =
    on_err_weaker c.check_and_encode.result (stops_by_texts c.in_ok-indexes.ensures.texts c.in_ok-indexes.ensures.well_formed) c.check_and_encode.ensures.stops
