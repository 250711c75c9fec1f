use Rattle.std.proofs.Common.{rules}
use Rattle.legacy_index_files.specs.declared.index_file.EncoderIndex.TheVariants.{Of}
use Rattle.legacy_index_files.proofs.WellFormed.{well_formed_ok}
use Rattle.legacy_encodings.proofs.ReadTables.{index_fault_of}
use Rattle.legacy_encodings.proofs.registry.Registry.read_index.Goals as goal

pub returns-in-Ok-clause-file : goal.returns-in-Ok-clause-file
returns-in-Ok-clause-file c = record {
  multi_byte = search rules;
  well_formed = well_formed_ok (Of c.args.index) c.args.text.now c.read.result c.read.ensures.line c.in-Ok.field-0 c.in-Ok.is;
  holds = c.in-Ok.ensures.table;
}

pub returns-in-Err-clause-file : goal.returns-in-Err-clause-file
returns-in-Err-clause-file c =
    index_fault_of c.args.index c.args.text.now c.read.result c.read.ensures.line (search rules) c.in-Err.fault c.in-Err.is
