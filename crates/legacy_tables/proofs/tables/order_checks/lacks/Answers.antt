use Rattle.std.proofs.Common.{◌∙◌, sym, arith}
use Rattle.legacy_tables.proofs.Orders.{lacking, lacks-last}
use Rattle.legacy_tables.proofs.tables.order_checks.lacks.Goals as goal

pub returns-then-takes_last_of : goal.returns-then-takes_last_of
returns-then-takes_last_of g c =
    let last = c.last_of.ensures c.args.part _ c.requires.lasts (sym c.takes_last_of.ensures ∙ c.if-takes_last_of.true) in
    lacks-last _ _ _ _ c.requires.lookup _ _ c.number_at-scalar.ensures c.if-scalar-eq0.false (sym c.is_usable.ensures ∙ c.if-not-is_usable.false)
    _ (sym c.in-Some.ensures) _ (λ e. grind (arith, last)) (λ e z. grind (arith, last))

pub returns-then-scalar-eq0 : goal.returns-then-scalar-eq0
returns-then-scalar-eq0 g c = grind (arith, lacking)

pub returns-then-not-is_usable : goal.returns-then-not-is_usable
returns-then-not-is_usable g c = grind (arith, lacking)

pub returns-in-None : goal.returns-in-None
returns-in-None g c = grind (arith, lacking)

pub returns-else-takes_last_of : goal.returns-else-takes_last_of
returns-else-takes_last_of g c = grind (arith, lacking)
