use Rattle.std.proofs.Common.{sym, ◌∙◌, inl, inr, arith, refl}
use Rattle.legacy_command.proofs.CommandLine.{works_with}
use Rattle.legacy_command.proofs.program.run.Goals as goal

pub returns-in-Ok : goal.returns-in-Ok
returns-in-Ok g c =
    let named = sym c.codec_in.ensures ∙ c.in-Some.is in
    record {
      statuses = omega arith;
      usage = (λ e. absurd (omega arith), λ none. absurd cc);
      unread = λ e. absurd (omega arith);
      recoded = λ e. rw (c.request-rest.ensures, c.output_asked-kind.ensures)
          at (works_with _ _ c.request-rest.result.now _ named c.in-Ok.ensures.well_formed c.in-Ok.ensures.recoded);
      stops = λ e. absurd (omega arith);
      silent = λ e. refl;
    }

pub returns-in-Err : goal.returns-in-Err
returns-in-Err g c =
    let named = sym c.codec_in.ensures ∙ c.in-Some.is in
    record {
      stops = λ e. elim c.in-Err.ensures.stops [
        | inl untouched ↦ inl untouched
        | inr by ↦ inr (rw (c.request-rest.ensures, c.output_asked-kind.ensures) at (works_with _ _ c.request-rest.result.now _ named by.0 by.1))
      ];
      statuses = omega arith;
      usage = (λ e. absurd (omega arith), λ none. absurd cc);
      unread = λ e. absurd (omega arith);
      recoded = λ e. absurd (omega arith);
      silent = λ e. absurd (omega arith);
    }
