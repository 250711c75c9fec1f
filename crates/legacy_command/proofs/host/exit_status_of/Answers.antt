use Rattle.std.proofs.Common.{[], refl, arith}
use Rattle.legacy_command.proofs.Stopping.{untouched}
use Rattle.legacy_command.proofs.host.exit_status_of.Goals as goal

pub returns-in-Ok-status-clause-usage : goal.returns-in-Ok-status-clause-usage
returns-in-Ok-status-clause-usage g c =
    let usage = rw c.as_slice.ensures.value at c.in-Ok-status.ensures.usage in
    rw c.in-Ok.is (usage.0, λ none zero. let two = usage.1 none in omega (arith, two, zero))

pub returns-in-Ok-clause-stops : goal.returns-in-Ok-clause-stops
returns-in-Ok-clause-stops g c e =
    let same = c.in-Err-status.ensures.err in
    record { words = []; files = []; by = untouched c.args.program [] [] _ _ _ _ (rw same.0 refl, rw same.1 refl) }

pub returns-clause-stops : goal.returns-clause-stops
returns-clause-stops g c e = record { words = []; files = []; by = untouched c.args.program [] [] _ _ _ _ (refl, refl) }
