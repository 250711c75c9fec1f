use Rattle.std.proofs.{Common.{refl, rules}, lemmas.Result.err_from_is_err_and}
use Rattle.legacy_encodings.proofs.ReadTables.{single_byte_file, single_byte_fault_of}
use Rattle.legacy_encodings.proofs.registry.Registry.read_single_byte.Goals as goal

pub returns-in_err-read-clause-table : goal.returns-in_err-read-clause-table
returns-in_err-read-clause-table c =
    let p = err_from_is_err_and c.from_residual.result c.from_residual.ensures.1 in
    rw (p.1, p.2)
    (search rules, single_byte_fault_of c.args.text.now _ c.in_err-read.ensures.line (c.in_err-read.ensures.memory refl) _ refl)

pub returns-in_err-table-clause-table : goal.returns-in_err-table-clause-table
returns-in_err-table-clause-table c =
    let p = err_from_is_err_and c.from_residual-in_err-table.result c.from_residual-in_err-table.ensures.1 in
    let file = single_byte_file c.args.text.now _ c.in_ok-read.ensures.line _ _ c.in_ok-read.ensures.table _ refl in
    rw (p.1, p.2) (search rules, (c.read.new.self.single_byte, file, c.in_err-table.ensures))

-- the table of the file comes first
pub returns-in-Ok-clause-table : goal.returns-in-Ok-clause-table
returns-in-Ok-clause-table c =
    let file = single_byte_file c.args.text.now _ c.in_ok-read.ensures.line _ _ c.in_ok-read.ensures.table _ refl in
    record {
      table = record { encoding = c.args.encoding; table = c.in_ok-table.table };
      of = refl;
      of_file = rw c.in_ok-table.ensures file;
      first = c.in-Ok.ensures.items;
      single_byte = search rules;
    }

pub returns-clause-table : goal.returns-clause-table
returns-clause-table c =
    let file = single_byte_file c.args.text.now _ c.in_ok-read.ensures.line _ _ c.in_ok-read.ensures.table _ refl in
    (search rules, (c.in_ok-table.table.entries, rw c.in_ok-table.ensures file, c.in_ok-table.table.accepted))
