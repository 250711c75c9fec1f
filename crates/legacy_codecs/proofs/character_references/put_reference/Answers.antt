use Rattle.std.proofs.Common.{◌≡◌, ◌∙◌, ℕ, ◌+◌, ◌-◌, ◌++◌, List, length, drop, take, ap, sym, arith, length-drop}
use Rattle.std.proofs.lemmas.{Slice.take-put_mid, List.take_all}
use Rattle.legacy_codecs.proofs.character_references.put_reference.Goals as goal

part_length : (start : ℕ) (text part : List ℕ) → length text ≡ 10 → drop start text ≡ part → 10 - start ≡ length part
part_length start text part long e = omega (arith, ap length e, length-drop start text)

-- what is copied is all from the start on
whole_part : (start : ℕ) (text part copied : List ℕ) → length text ≡ 10 → drop start text ≡ part → copied ≡ take (10 - start) (drop start text) → copied ≡ part
whole_part start text part copied long e f = f ∙ take_all (10 - start) (drop start text) (omega (arith, length-drop start text)) ∙ e

pub returns-clause-end : goal.returns-clause-end
returns-clause-end c =
    let made = c.make_reference-start in
    ap (λ n. c.args.at + n) (part_length made.result made.new.text _ made.array_long made.ensures.reference)

pub returns-clause-bytes : goal.returns-clause-bytes
returns-clause-bytes c =
    let made = c.make_reference-start in
    let copied = c.copy_from_slice in
    let whole = whole_part made.result made.new.text _ copied.new.self made.array_long made.ensures.reference copied.ensures.after in
    let long = part_length made.result made.new.text _ made.array_long made.ensures.reference ∙ ap length (sym whole) in
    take-put_mid c.args.at _ c.args.dst.now copied.new.self (c.args.at + (10 - made.result)) (ap (λ n. c.args.at + n) long) (omega arith)
    ∙ ap (λ l. take c.args.at c.args.dst.now ++ l) whole
