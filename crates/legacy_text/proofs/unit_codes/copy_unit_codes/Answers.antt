use Rattle.std.proofs.Common.{◌≡◌, ◌+◌, arith}
use Rattle.std.proofs.lemmas.List.{length-take-le}
use Rattle.legacy_text.proofs.ShortScalars.{block_after, codes_before}
use Rattle.legacy_text.proofs.unit_codes.copy_unit_codes.Goals as goal

pub returns : goal.returns
returns g c =
    let e = c.ascii_count.ensures in
    let b = c.code_block in
    let done = c.copy_code_blocks-copied.ensures in
    let stored = c.store.ensures _ e.most in
    let all = block_after b.result.0 b.result.1 (omega arith) e.most b.ensures.bytes b.ensures.codes e.ascii stored
    (λ k h. done.bmp k (omega arith)) (codes_before _ c.args.at _ c.copy_code_blocks-copied.result.0 (omega arith) (length-take-le _ _ c.requires) done.writes) in
    let same : c.args.at + (c.min-back.result + c.ascii_count.result) ≡ (c.args.at + c.min-back.result) + c.ascii_count.result = omega arith in
    record { read = omega arith; fits = omega arith; bmp = all.0; writes = rw same all.1 }
