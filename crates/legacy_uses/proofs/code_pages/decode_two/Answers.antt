use Rattle.std.proofs.{Common.{◌∙◌, ap, inl, inr, refl}, lemmas.Result.err_from_is_err_and}
use Rattle.legacy_index_files.specs.OwnedIndexes.{owned_lists}
use Rattle.legacy_encodings.specs.declared.read_indexes.ReadIndexes.{ReadIndexes}
use Rattle.legacy_uses.proofs.EucKrFiles.{holds_well_formed}
use Rattle.legacy_uses.proofs.TwoFiles.{euc_kr_by_file, windows_1252_by_file, not_decoded_by_euc_kr, not_decoded_by_table, not_read_by_index, not_read_by_table}
use Rattle.legacy_uses.proofs.code_pages.decode_two.Goals as goal

pub returns-in_err-read_index-clause-fault : goal.returns-in_err-read_index-clause-fault
returns-in_err-read_index-clause-fault c =
    let p = err_from_is_err_and c.from_residual.result c.from_residual.ensures.1 in
    rw (p.1, p.2) (inl (not_read_by_index c.args.files.now.euc_kr.now c.args.korean.now _ c.in_err-read_index.ensures.file))

pub returns-in_err-read_single_byte-clause-fault : goal.returns-in_err-read_single_byte-clause-fault
returns-in_err-read_single_byte-clause-fault c =
    let r = c.from_residual-in_err-read_single_byte in
    let p = err_from_is_err_and r.result r.ensures.1 in
    let h = holds_well_formed c.new-registry.ensures.indexes c.new-registry.ensures.katakana c.in_ok-read_index.ensures.file.well_formed
    c.in_ok-read_index.ensures.file.holds in
    let fault = not_read_by_table c.args.files.now.windows_1252.now c.args.western.now _ c.in_err-read_single_byte.ensures.table in
    rw (p.1, p.2) (inr (h.of_file.well_formed, fault))

pub returns-in_err-coders-clause-fault : goal.returns-in_err-coders-clause-fault
returns-in_err-coders-clause-fault c =
    let r = c.from_residual-in_err-coders in
    let p = err_from_is_err_and r.result r.ensures.1 in
    let h = holds_well_formed c.new-registry.ensures.indexes c.new-registry.ensures.katakana c.in_ok-read_index.ensures.file.well_formed
    c.in_ok-read_index.ensures.file.holds in
    let same = ap owned_lists c.in_ok-read_single_byte.ensures.indexes ∙ h.only in
    rw (p.1, p.2) (inl (c.read_index.new.self.indexes.euc_kr.items, h.of_file, rw same at c.in_err-coders.ensures))

pub returns-in_err-korean_text-clause-fault : goal.returns-in_err-korean_text-clause-fault
returns-in_err-korean_text-clause-fault c =
    let r = c.from_residual-in_err-korean_text in
    let p = err_from_is_err_and r.result r.ensures.1 in
    let h = holds_well_formed c.new-registry.ensures.indexes c.new-registry.ensures.katakana c.in_ok-read_index.ensures.file.well_formed
    c.in_ok-read_index.ensures.file.holds in
    let coders = c.in_ok-coders.coders in
    let same = c.in_ok-coders.ensures.0 ∙ ap owned_lists c.in_ok-read_single_byte.ensures.indexes ∙ h.only in
    let read = c.in_ok-coders.ensures.2 ∙ c.in_ok-read_single_byte.ensures.read ∙ c.in_ok-read_index.ensures.read in
    let read = ap (λ (r : ReadIndexes). r.euc_kr) read in
    rw (p.1, p.2) (inl (not_decoded_by_euc_kr coders _ _ _ h.of_file same read _ c.in_err-korean_text.ensures))

pub returns-in_err-western_text-clause-fault : goal.returns-in_err-western_text-clause-fault
returns-in_err-western_text-clause-fault c =
    let r = c.from_residual-in_err-western_text in
    let p = err_from_is_err_and r.result r.ensures.1 in
    let read = rw (c.in_ok-read_index.ensures.single_bytes, c.new-registry.ensures.single_bytes, ← c.in_ok-coders.ensures.1)
    at c.in_ok-read_single_byte.ensures.table in
    let h = holds_well_formed c.new-registry.ensures.indexes c.new-registry.ensures.katakana c.in_ok-read_index.ensures.file.well_formed
    c.in_ok-read_index.ensures.file.holds in
    rw (p.1, p.2) (inr (h.of_file.well_formed, not_decoded_by_table c.in_ok-coders.coders _ _ read _ c.in_err-western_text.ensures))

pub returns-clause-korean : goal.returns-clause-korean
returns-clause-korean c =
    let h = holds_well_formed c.new-registry.ensures.indexes c.new-registry.ensures.katakana c.in_ok-read_index.ensures.file.well_formed
    c.in_ok-read_index.ensures.file.holds in
    let coders = c.in_ok-coders.coders in
    let same = c.in_ok-coders.ensures.0 ∙ ap owned_lists c.in_ok-read_single_byte.ensures.indexes ∙ h.only in
    let read = c.in_ok-coders.ensures.2 ∙ c.in_ok-read_single_byte.ensures.read ∙ c.in_ok-read_index.ensures.read in
    let read = ap (λ (r : ReadIndexes). r.euc_kr) read in
    euc_kr_by_file coders _ _ _ h.of_file same read _ c.in_ok-korean_text.ensures

pub returns-clause-western : goal.returns-clause-western
returns-clause-western c =
    let read = rw (c.in_ok-read_index.ensures.single_bytes, c.new-registry.ensures.single_bytes, ← c.in_ok-coders.ensures.1)
    at c.in_ok-read_single_byte.ensures.table in
    windows_1252_by_file c.in_ok-coders.coders _ _ read _ c.in_ok-western_text.ensures

pub returns-clause-fault : goal.returns-clause-fault
returns-clause-fault c = tt
