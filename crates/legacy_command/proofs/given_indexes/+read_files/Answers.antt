use Rattle.std.proofs.{Common.{arith, rules, Err, inl, inr, ap, refl}, lemmas.{Grind.common_steps, List.take_rest, Result.err_from_is_err_and}}
use Rattle.legacy_command.proofs.{CommandLine.later_indexes, GivenFiles.{few_words, few_well_formed, one_more}}
use Rattle.legacy_index_files.specs.declared.index_file.EncoderIndex.TheVariants.{Of}
use Rattle.legacy_index_files.proofs.WellFormed.{well_formed_ok}
use Rattle.legacy_command.proofs.given_indexes.+read_files.Goals as goal

pub read_files-requires : goal.read_files-requires
read_files-requires t c =
    (search rules, rw (take_rest c.args.words.now 2) (later_indexes c.args.words.now c.in-len2-up.len_at_least c.requires))

pub returns-in_default-clause-texts : goal.returns-in_default-clause-texts
returns-in_default-clause-texts t c = few_words _ _ c.args.files.now c.in_default.len_below c.new.ensures.empty

pub returns-clause-texts : goal.returns-clause-texts
returns-clause-texts t c =
    let read = c.in-Some-Some-default in
    let later = rw (take_rest c.args.words.now 2) at c.in_ok-indexes.ensures.texts in
    let more = one_more c.in-len2-up.len_at_least c.first_index.ensures c.in-Some.is read.ensures.cases.0 read.field-0-0-is in
    more.texts _ (c.set.ensures.texts _ read.text.now later c.in-Ok.ensures.table)

pub returns-in_default-clause-well_formed : goal.returns-in_default-clause-well_formed
returns-in_default-clause-well_formed t c = few_well_formed _ c.args.files.now c.in_default.len_below

pub returns-clause-well_formed : goal.returns-clause-well_formed
returns-clause-well_formed t c =
    let read = c.in-Some-Some-default in
    let later = rw (take_rest c.args.words.now 2) at c.in_ok-indexes.ensures.well_formed in
    let more = one_more c.in-len2-up.len_at_least c.first_index.ensures c.in-Some.is read.ensures.cases.0 read.field-0-0-is in
    more.well_formed (well_formed_ok (Of c.in-Some.name) read.text.now c.read_index.result c.read_index.ensures.line c.in-Ok.table c.in-Ok.is) later

-- a later FILE is the first that gives a fault
pub returns-in_err-indexes-clause-fault : goal.returns-in_err-indexes-clause-fault
returns-in_err-indexes-clause-fault t c =
    let read = c.in-Some-Some-default in
    let later = rw (take_rest c.args.words.now 2) at c.in_err-indexes.ensures.fault in
    let p = err_from_is_err_and c.from_residual.result c.from_residual.ensures.1 in
    let more = one_more c.in-len2-up.len_at_least c.first_index.ensures c.in-Some.is read.ensures.cases.0 read.field-0-0-is in
    let formed = well_formed_ok (Of c.in-Some.name) read.text.now c.read_index.result c.read_index.ensures.line c.in-Ok.table c.in-Ok.is in
    rw (p.1, p.2) (more.later_fault _ formed later)

pub returns-in-Err-Line-clause-fault : goal.returns-in-Err-Line-clause-fault
returns-in-Err-Line-clause-fault t c =
    let read = c.in-Some-Some-default in
    let found = (c.in-Err-Line.ensures.line _).0 (ap (λ e. Err e) c.in-Err-Line.field-0-is) in
    let more = one_more c.in-len2-up.len_at_least c.first_index.ensures c.in-Some.is read.ensures.cases.0 read.field-0-0-is in
    rw c.in-Err-Line.field-0-is (inr (more.line_fault _ _ found))

pub returns-in-Err-Memory-clause-fault : goal.returns-in-Err-Memory-clause-fault
returns-in-Err-Memory-clause-fault t c = inl refl

pub returns-in_default-split_first-clause-texts : goal.returns-in_default-split_first-clause-texts
returns-in_default-split_first-clause-texts t c = tt

pub returns-in_default-split_first-clause-well_formed : goal.returns-in_default-split_first-clause-well_formed
returns-in_default-split_first-clause-well_formed t c = tt

pub returns-in_default-split_first-clause-fault : goal.returns-in_default-split_first-clause-fault
returns-in_default-split_first-clause-fault t c = grind (arith, common_steps)
