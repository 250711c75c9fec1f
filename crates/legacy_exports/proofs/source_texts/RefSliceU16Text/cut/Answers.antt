use Rattle.std.proofs.Common.{◌≤◌, ◌∙◌, ◌-◌, refl, [], length, take, drop, arith, ap, length-drop, length-take}
use Rattle.legacy_text.specs.Texts.{unit_scalars}
use Rattle.legacy_exports.proofs.TextCuts.{IsApart, apart, apart_after, unit_parts, units_over, no_units, no_piece, no_scalars}
use Rattle.legacy_exports.proofs.source_texts.RefSliceU16Text.cut.Goals.{After-is_empty}
use Rattle.legacy_exports.proofs.source_texts.RefSliceU16Text.cut.Goals as goal

-- where the text is cut
cut_at : (c : After-is_empty) → IsApart c.args.self.now c.if-parts_pair.end × (c.if-parts_pair.end ≤ length c.args.self.now)
    × (c.piece_end-end.result ≤ c.if-parts_pair.end)
cut_at c = grind (arith, apart, apart_after)

pub returns-clause-parts : goal.returns-clause-parts
returns-clause-parts c = let cut = cut_at c in unit_parts c.args.self.now c.if-parts_pair.end cut.1 cut.0

pub returns-clause-some : goal.returns-clause-some
returns-clause-some c e =
    let units = c.args.self.now in
    let cut = cut_at c in
    let first = c.piece_end-end.ensures.goes_on in
    let none = no_units (take c.if-parts_pair.end units) e in
    ap unit_scalars (no_piece units c.if-parts_pair.end cut.1 (λ some. omega (arith, first some, cut.2)) none) ∙ no_scalars [] refl

pub returns-clause-whole : goal.returns-clause-whole
returns-clause-whole c e = grind (arith, cut_at, length-take, length-drop, no_scalars)

pub returns-clause-is_over : goal.returns-clause-is_over
returns-clause-is_over c =
    let units = c.args.self.now in
    let end = c.if-parts_pair.end in
    rw c.is_empty.ensures (units_over (take (length units - end) (drop end units)))
