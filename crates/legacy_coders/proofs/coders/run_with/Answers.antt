use Rattle.legacy_coders.proofs.coders.run_with.Goals as goal

pub returns : goal.returns
returns g c = (_, c.run.ensures)
