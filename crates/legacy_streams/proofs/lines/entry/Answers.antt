use Rattle.std.proofs.{Common.{◌∙◌, ap, arith, get_or}, lemmas.List.FromFn.get_or-map-range_with_len}
use Rattle.legacy_streams.proofs.lines.entry.Goals as goal

pub returns : goal.returns
returns c = λ number is.
    rw c.from.ensures (ap (λ t. get_or t c.args.byte 0) is ∙ get_or-map-range_with_len number 0 256 c.args.byte c.args.byte 0 (omega arith) (omega arith))
