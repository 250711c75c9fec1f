use Rattle.std.proofs.{Common.{◌∙◌, ap, sym, subst, refl, length, ◌≡◌, None}, lemmas.Result.err_from_is_err_and}
use Rattle.legacy_base.specs.{EucKr.euc_kr, Lengths.{query_answer, to_utf8}, States.new_state}
use Rattle.legacy_tables.specs.TableChecks.{AreAccepted}
use Rattle.legacy_uses.specs.IndexData.{IsEucKrIndex}
use Rattle.legacy_codecs.specs.WholeTexts.{text_of}
use Rattle.legacy_uses.proofs.EucKrFiles.{holds_euc_kr, euc_kr_fault_of, not_decoded_by_file}
use Rattle.legacy_uses.proofs.code_pages.decode_by_file.Goals as goal

pub returns-in_err-read : goal.returns-in_err-read
returns-in_err-read c =
    let p = err_from_is_err_and c.from_residual.result c.from_residual.ensures.1 in
    rw (p.1, p.2) (euc_kr_fault_of c.args.file.now c.args.input.now _ c.in_err-read.ensures.line _ refl)

pub returns-in_err-tables : goal.returns-in_err-tables
returns-in_err-tables c =
    let p = err_from_is_err_and c.from_residual-in_err-tables.result c.from_residual-in_err-tables.ensures.1 in
    let h = holds_euc_kr c.new-owned.ensures.empty c.new-owned.ensures.katakana c.in_ok-read.ensures.table c.in_ok-read.ensures.line refl in
    rw (p.1, p.2) (c.read.new.self.euc_kr.items, h.of_file, rw h.only at c.in_err-tables.ensures)

pub returns-in_err-decode_whole : goal.returns-in_err-decode_whole
returns-in_err-decode_whole c =
    let p = err_from_is_err_and c.from_residual-in_err-decode_whole.result c.from_residual-in_err-decode_whole.ensures.1 in
    let h = holds_euc_kr c.new-owned.ensures.empty c.new-owned.ensures.katakana c.in_ok-read.ensures.table c.in_ok-read.ensures.line refl in
    let flat = c.in_ok-tables.ensures ∙ h.only in
    let is : IsEucKrIndex c.args.file.now c.read.new.self.euc_kr.items =
    record { of_file = h.of_file; accepted = subst AreAccepted flat c.in_ok-tables.tables.accepted } in
    let same = c.new-decoder.ensures ∙ ap (λ f. new_state (euc_kr f.euc_kr)) flat in
    rw (p.1, p.2) (not_decoded_by_file c.args.file.now c.args.input.now c.read.new.self.euc_kr.items is _ same _ c.in_err-decode_whole.ensures.too_long _ refl)

pub returns : goal.returns
returns c =
    let h = holds_euc_kr c.new-owned.ensures.empty c.new-owned.ensures.katakana c.in_ok-read.ensures.table c.in_ok-read.ensures.line refl in
    let flat = c.in_ok-tables.ensures ∙ h.only in
    let same = c.new-decoder.ensures ∙ ap (λ f. new_state (euc_kr f.euc_kr)) flat in
    record {
      index = c.read.new.self.euc_kr.items;
      is_index = record { of_file = h.of_file; accepted = subst AreAccepted flat c.in_ok-tables.tables.accepted };
      short = λ none.
          let e = c.in_ok-decode_whole.ensures.too_long.1 (subst (λ s. query_answer to_utf8 s (length c.args.input.now) ≡ None) (sym same) none) in cc;
      decodes = c.in_ok-decode_whole.ensures.text ∙ ap (λ s. text_of s c.args.input.now) same;
    }
