use Rattle.std.proofs.{Common.{◌≡◌, ◌+◌, ◌≤◌, ℕ, arith, length, take}, lemmas.List.{get_or-take, length-take-le, Elements.All-from_get_or}}
use Rattle.legacy_japanese.{specs.Iso2022JpAhead.IsAsciiText, proofs.Iso2022JpAhead.ascii_text_before}
use Rattle.legacy_japanese.proofs.iso_2022_jp.read_ahead.ascii_text_count.Goals as goal

pub returns-clause-text : goal.returns-clause-text
returns-clause-text c =
    let block = c.args.block in
    let count = c.min.result in
    let few : count ≤ 64 = omega (arith, c.min.ensures, c.ascii_front.ensures.most) in
    let long : length (take count block) ≡ count = length-take-le count block (omega (arith, few, c.fits-block.0)) in
    let same : (i : ℕ) → 0 + i ≡ i = λ i. omega arith in
    let before = c.ascii_front.ensures.ascii block 0 (λ i l. rw (same i) (c.past_ascii.ensures i (omega (arith, l)))) in
    All-from_get_or IsAsciiText (take count block) 0 (λ k h.
    let low = rw (same k) at (before k (omega (arith, h, long, c.min.ensures)) (omega (arith, h, long, few))) in
    rw (get_or-take count block k 0 (omega (arith, h, long)))
    (ascii_text_before block k c.fits-block.0 (omega (arith, h, long, few)) low (omega (arith, h, long, c.min.ensures))))
