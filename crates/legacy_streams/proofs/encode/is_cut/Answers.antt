use Rattle.std.proofs.Common.{arith}
use Rattle.std.proofs.{Common.{◌∙◌, not, is_some, sym, ap}, lemmas.Str.utf8_valid_len-IsValidUpTo}
use Rattle.legacy_streams.proofs.EncodingUnderWay.{no_text, told_of_all}
use Rattle.legacy_streams.proofs.encode.is_cut.Goals as goal

pub returns-in-Ok-clause-none : goal.returns-in-Ok-clause-none
returns-in-Ok-clause-none c = absurd (no_text c.args.invalid.now c.requires c.in-Ok.ensures.cases.1)

pub returns-in-Err-clause-none : goal.returns-in-Err-clause-none
returns-in-Err-clause-none c = grind (arith, told_of_all)

pub returns-in-Err-clause-short : goal.returns-in-Err-clause-short
returns-in-Err-clause-short c t =
    let none = ap is_some (sym c.error_len.ensures) ∙ c.is_none.ensures ∙ ap not t in
    let no_text = c.in-Err.ensures.valid_len ∙ utf8_valid_len-IsValidUpTo c.args.invalid.now 0 c.requires in
    grind (arith, c.in-Err.ensures.error_len)
