use Rattle.std.proofs.Common.{refl, arith}
use Rattle.legacy_tables.specs.declared.tables.packed.Run.{Run}
use Rattle.legacy_index_files.proofs.PackingRuns.{no-runs, run-added, runs-made, none-longest, longest-added}
use Rattle.std.proofs.lemmas.Grind.{common_steps}
use Rattle.legacy_index_files.proofs.packing.pointer_runs.fill_runs.Goals as goal

pub loop-pointer-init : goal.loop-pointer-init
loop-pointer-init g c = record {
  within = omega arith;
  longest = rw c.clear.ensures.items (none-longest _ (g.E.Entry.numbers c.args.index.now));
  runs = rw c.clear.ensures.items (no-runs (g.E.Entry.numbers c.args.index.now));
}

pub loop-pointer-preserved : goal.loop-pointer-preserved
loop-pointer-preserved g c =
    let within = c.run_length-length.ensures.within in
    let run : Run = record { scalar = c.number-scalar.result; pointer = c.loop-pointer.pointer; length = c.run_length-length.result } in
    record {
      within = omega arith;
      longest = rw c.in_ok-push.ensures.items
          (longest-added _ _ _ _ c.loop-pointer.invariant.longest run refl c.number-scalar.ensures.value (omega arith) c.run_length-length.ensures.some
          (λ l. c.run_length-length.ensures.longest (omega arith)));
      runs = rw c.in_ok-push.ensures.items
          (run-added _ _ _ c.loop-pointer.invariant.runs run refl c.number-scalar.ensures.value (grind arith) c.run_length-length.ensures.row);
    }

pub returns : goal.returns
returns g c = record {
  gives = runs-made c.loop-pointer.pointer _ _ c.loop-pointer.invariant.runs c.args.limit (omega arith)
      (λ h. let all = g.met.E.Entry.all c.args.index.now in omega arith);
  longest = c.loop-pointer.invariant.longest.longest;
}

pub loop-pointer-preserved-then-scalar-eq0 : goal.loop-pointer-preserved-then-scalar-eq0
loop-pointer-preserved-then-scalar-eq0 g c = grind (arith, common_steps)
