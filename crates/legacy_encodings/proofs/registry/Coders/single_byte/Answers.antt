use Rattle.std.proofs.Common.{◌≡◌, Some, find, bytes_eq, option_map, subst, ap}
use Rattle.legacy_index_files.specs.Encodings.{encoding_name}
use Rattle.legacy_encodings.specs.declared.registry.EncodingTable.{EncodingTable}
use Rattle.legacy_encodings.proofs.registry.Coders.single_byte.Goals as goal

-- the table that is found by the encoding's name
pub returns-in-Some : goal.returns-in-Some
returns-in-Some c =
    let tables = c.args.self.now.single_bytes.now in
    subst (λ n. Some c.in-Some.entry.now.table.entries ≡ option_map (λ (t : EncodingTable). t.table.entries)
    (find (λ (t : EncodingTable). bytes_eq (encoding_name t.encoding) n) tables))
    c.name.ensures
    (ap (option_map (λ (t : EncodingTable). t.table.entries)) c.in-Some.ensures)
