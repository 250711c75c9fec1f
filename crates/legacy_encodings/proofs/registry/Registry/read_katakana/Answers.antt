use Rattle.legacy_index_files.specs.declared.index_file.EncoderIndex.TheVariants.{Katakana}
use Rattle.legacy_index_files.proofs.WellFormed.{well_formed_ok}
use Rattle.legacy_encodings.proofs.ReadTables.{katakana_fault_of}
use Rattle.legacy_encodings.proofs.registry.Registry.read_katakana.Goals as goal

pub returns-in-Ok-clause-file : goal.returns-in-Ok-clause-file
returns-in-Ok-clause-file c = record {
  well_formed = well_formed_ok Katakana c.args.text.now c.read_katakana.result c.read_katakana.ensures.line c.in-Ok.field-0 c.in-Ok.is;
  holds = c.in-Ok.ensures.values;
}

pub returns-in-Err-clause-file : goal.returns-in-Err-clause-file
returns-in-Err-clause-file c =
    katakana_fault_of c.args.text.now c.read_katakana.result c.read_katakana.ensures.line c.in-Err.fault c.in-Err.is
