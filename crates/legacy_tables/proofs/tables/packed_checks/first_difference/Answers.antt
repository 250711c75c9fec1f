use Rattle.std.proofs.{lemmas.Bool.Decides.nat_tests, Common.arith, lemmas.List.get_or_past}
use Rattle.legacy_tables.specs.Packed.{differs_at, run_difference}
use Rattle.legacy_tables.proofs.{FirstPlaces.{find-some, find-none}, PackedRuns.{first-after, scalar-past_list}}
use Rattle.legacy_tables.proofs.tables.packed_checks.first_difference.Goals as goal

pub loop-pointer-init : goal.loop-pointer-init
loop-pointer-init g c = grind (arith, first-after)

pub returns-then-differ : goal.returns-then-differ
unfolding run_difference
returns-then-differ g c =
    grind (arith, find-some (differs_at c.args.runs.now.runs.now (g.N.Numbers.numbers c.args.index.now)) 0 c.args.limit c.loop-pointer.pointer)

pub loop-pointer-preserved : goal.loop-pointer-preserved
loop-pointer-preserved g c = grind (arith, nat_tests)

pub returns : goal.returns
unfolding run_difference
returns g c =
    let none = find-none (differs_at c.args.runs.now.runs.now (g.N.Numbers.numbers c.args.index.now)) 0 c.args.limit in
    grind (arith, nat_tests, none, scalar-past_list, get_or_past)
