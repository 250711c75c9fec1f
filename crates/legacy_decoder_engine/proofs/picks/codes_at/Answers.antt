use Rattle.std.proofs.{Common.{◌<◌, ◌∙◌, ap, refl, subst, sym, take, length, arith, w8}, lemmas.Simd.{swz_l, SwzOk, SwzOk-from_below}}
use lib.Lanes.{digits_l, number_l}
use Rattle.legacy_decoder_engine.specs.PickedForms.{row, places}
use Rattle.legacy_decoder_engine.proofs.Picking.{rows_are, row_within, row_long, codes_picked}
use Rattle.legacy_decoder_engine.proofs.picks.codes_at.Goals as goal

pub swizzle : goal.swizzle
swizzle c =
    let x = c.args.starts in
    let small : x < 256 = c.ranges.starts.fits in
    subst (λ js. SwzOk w8 16 16 0 js) (sym (rw c.from.ensures at (c.row_of-row.ensures row rows_are)))
    (SwzOk-from_below w8 16 1 16 0 (row x) refl (omega (arith, row_long x small)) (row_within x small))

pub returns-clause-codes : goal.returns-clause-codes
returns-clause-codes c =
    let x = c.args.starts in
    ap (λ js. take (length (places 0 8 x)) (digits_l 65536 8 (number_l 256 (swz_l w8 16 c.args.bytes 0 js))))
    (rw c.from.ensures at (c.row_of-row.ensures row rows_are))
    ∙ codes_picked c.args.bytes c.fits-bytes.1 x c.ranges.starts.fits
