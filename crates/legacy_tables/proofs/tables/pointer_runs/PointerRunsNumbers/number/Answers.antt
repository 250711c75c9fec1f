use Rattle.std.proofs.Common.{◌∙◌, sym, ap}
use Rattle.std.specs.Option.{option_map_or}
use Rattle.legacy_tables.proofs.PackedRuns.{runs_list-entry}
use Rattle.legacy_tables.proofs.tables.pointer_runs.PointerRunsNumbers.number.Goals as goal

pub returns-in-Some : goal.returns-in-Some
returns-in-Some g c = sym (runs_list-entry c.args.self.now.runs.now c.args.at ∙ ap (λ o. option_map_or (λ s. s) o 0) (sym c.in-Some.ensures))

pub returns-in-None : goal.returns-in-None
returns-in-None g c = sym (runs_list-entry c.args.self.now.runs.now c.args.at ∙ ap (λ o. option_map_or (λ s. s) o 0) (sym c.in-None.ensures))
