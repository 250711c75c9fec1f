use Rattle.std.proofs.{Common.{◌≡◌, ◌∙◌, ◌<◌, ◌^◌, ℕ, List, ap, arith, get_or, length, take}, lemmas.List.{get_or-map, get_or-take, length-map, length-take-le}}
use Rattle.{legacy_decoder_engine.proofs.WrittenReads.reads_none, legacy_text.{specs.ByteUnits.scalars_of, proofs.ByteUnits.one_each}}
use Rattle.legacy_single_byte.proofs.SingleByteAhead.{past_of, reads_entries}
use Rattle.legacy_single_byte.proofs.single_byte.blocks.MostlyAsciiParts.read_part.Goals as goal

pub returns-then-narrow-eq1-clause-ahead : goal.returns-then-narrow-eq1-clause-ahead
returns-then-narrow-eq1-clause-ahead g c =
    let T = g.T.Destination in
    let source = c.args.src.now in
    let entries = c.entries.result.now in
    let all = c.entries.ensures in
    let r = c.put_bytes.result in
    let e = c.put_bytes.ensures in
    let bytes : (k : ℕ) → get_or source k 0 < 2 ^ 8 = λ k. (c.type_inv.src k).fits in
    let front : length (take r source) ≡ r = length-take-le r source (omega arith) in
    let units : List ℕ = scalars_of entries (take r source) in
    let long : length units ≡ r = length-map (take r source) (λ b. get_or entries b 0) ∙ front in
    let unit : (k : ℕ) → k < r → get_or units k 0 ≡ get_or entries (get_or source k 0) 0 =
    λ k h. get_or-map (λ b. get_or entries b 0) (take r source) k 0 0 (omega (arith, h, front)) ∙ ap (λ b. get_or entries b 0) (get_or-take r source k 0 h) in
    rw c.ended.ensures.read
    (reads_entries c.args.self.now.scalars.now.table.now source units r bytes (λ k h. rw (unit k h) (all.same (get_or source k 0) (bytes k))) T _ _
    (λ k h past none. grind (arith, e.have k 0, unit k h, get_or-take r source k 0 h)) (omega arith) long e.contents e.room e.loan
    (omega (arith, one_each T.form entries (take r source) (omega arith) all.all, front, e.read)) (omega arith))

pub read_mostly_ascii-requires-clause-bits : goal.read_mostly_ascii-requires-clause-bits
read_mostly_ascii-requires-clause-bits g c = past_of c.args.src.now c.past_ascii-past.result c.past_ascii-past.ensures

pub returns-then-past-gt-MANY-clause-ahead : goal.returns-then-past-gt-MANY-clause-ahead
returns-then-past-gt-MANY-clause-ahead g c = reads_none _ _ _ _
