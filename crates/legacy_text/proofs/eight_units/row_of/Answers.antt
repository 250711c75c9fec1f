use Rattle.std.proofs.{Common.{◌∙◌, get_or, ap, arith, []}, lemmas.List.FromFn.get_or-map-range_with_len}
use Rattle.legacy_text.proofs.eight_units.row_of.Goals as goal

pub returns : goal.returns
returns c rule e =
    let p = c.args.pattern in
    ap (λ l. get_or l p []) e ∙ get_or-map-range_with_len rule 0 256 p p [] c.requires (omega arith)
