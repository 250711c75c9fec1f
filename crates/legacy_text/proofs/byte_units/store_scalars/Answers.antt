use Rattle.std.proofs.{Common.{arith, ◌∙◌, ap, w64, take, append-nil, ◌+◌}, lemmas.{Bool.Decides.nat_tests, Simd.get_or-chunk}}
use Rattle.std.{proofs.lemmas.List.take-set-le, specs.Int.trailing_zeros}
use Rattle.legacy_text.proofs.ByteUnits.{before_lowest, stored_ascii, stored_have, stored_next, stored_scalars}
use Rattle.legacy_text.proofs.byte_units.store_scalars.Goals as goal

pub loop-past-init : goal.loop-past-init
loop-past-init c =
    record {
      front = ap (λ n. take n c.store_bytes.new.dst) (omega arith) ∙ c.store_bytes.ensures 0 (omega arith) ∙ append-nil (take c.args.at c.args.dst.now);
      stored = λ i h none. stored_ascii c.args.entries.now c.args.bytes.now c.args.at c.requires.entries c.requires.block c.args.dst.now c.store_bytes.new.dst
          (omega (arith, c.requires.room)) (c.store_bytes.ensures 64 (omega arith)) i h
          (grind (arith, nat_tests, none, c.past_ascii-past.ensures i h, get_or-chunk 0 64 c.args.bytes.now i 0 h));
    }

pub loop-past-preserved : goal.loop-past-preserved
loop-past-preserved c =
    record {
      front = take-set-le c.args.at c.loop-past.dst (c.args.at + trailing_zeros w64 c.loop-past.past) _ (omega arith) ∙ c.loop-past.invariant.front;
      stored = stored_next c.args.entries.now c.args.bytes.now c.args.at c.requires.entries c.requires.block c.loop-past.dst c.loop-past.past _
          (grind (arith, c.loop-past-test.true)) (grind arith) (grind arith) (grind arith) (grind arith) c.loop-past.invariant.stored;
    }

pub returns-then-entry-eq0-clause-have : goal.returns-then-entry-eq0-clause-have
returns-then-entry-eq0-clause-have c =
    let l = c.loop-past in
    stored_have c.args.entries.now c.args.bytes.now c.args.dst.now l.dst c.args.at _ l.invariant.front (omega arith) (omega arith)
    (λ i h. l.invariant.stored i (omega (arith, h)) (before_lowest l.past i (omega (arith, h)) (omega arith)))

pub returns-then-entry-eq0-clause-stored : goal.returns-then-entry-eq0-clause-stored
returns-then-entry-eq0-clause-stored c =
    let l = c.loop-past in
    stored_scalars c.args.entries.now c.args.bytes.now c.args.dst.now l.dst c.args.at _ l.invariant.front (omega arith) (omega arith)
    (λ i h. l.invariant.stored i (omega (arith, h)) (before_lowest l.past i (omega (arith, h)) (omega arith)))
