use Rattle.legacy_command.proofs.host.status_by.Goals as goal

-- the words and files are those that were found
pub returns-clause-ends : goal.returns-clause-ends
returns-clause-ends g c =
    let run = c.run_program.ensures in
    record {
      statuses = run.statuses;
      unread = run.unread;
      done = λ e. record { words = _; files = _; by = run.done e };
      stops = λ e. record { words = _; files = _; by = run.stops e };
      silent = run.silent;
    }
