use Rattle.std.proofs.{Common.{ℕ, ◌∙◌, ap}, lemmas.Result.err_from_is_err_and}
use Rattle.std.specs.Bool.{◌==◌}
use Rattle.legacy_uses.proofs.checker.is_well_formed.Goals as goal

pub returns-in_err-found : goal.returns-in_err-found
returns-in_err-found c =
    let p = err_from_is_err_and c.from_residual.result c.from_residual.ensures.1 in
    rw (p.1, p.2) c.in_err-found.ensures

pub returns : goal.returns
returns c = record {
  found = c.in_ok-found.found.items;
  are_found = c.in_ok-found.ensures;
  answer = c.is_empty.ensures ∙ ap (λ (n : ℕ). n == 0) c.in_ok-found.found.ok.0;
}
