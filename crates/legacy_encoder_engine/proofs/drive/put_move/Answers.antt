use Rattle.std.proofs.Common.{◌≡◌, ◌+◌, append-nil, append_assoc, arith, refl, sym}
use Rattle.legacy_encoder_engine.proofs.drive.put_move.Goals as goal

pub put-requires : goal.put-requires
put-requires c = omega (arith, rw c.in-One.is at c.requires)

pub overflow_add-result : goal.overflow_add-result
overflow_add-result c = omega (arith, rw c.in-One.is at c.requires)

pub returns-in-One : goal.returns-in-One
returns-in-One c = rw c.in-One.is (record { bytes = c.put.ensures; end = refl })

pub put_two-requires : goal.put_two-requires
put_two-requires c = rw c.in-Two.is at c.requires

pub overflow_add-result-in-Two : goal.overflow_add-result-in-Two
overflow_add-result-in-Two c = omega (arith, rw c.in-Two.is at c.requires)

pub returns-in-Two : goal.returns-in-Two
returns-in-Two c = rw c.in-Two.is (record { bytes = c.put_two.ensures; end = refl })

pub put_four-requires : goal.put_four-requires
put_four-requires c = rw c.in-Four.is at c.requires

pub overflow_add-result-in-Four : goal.overflow_add-result-in-Four
overflow_add-result-in-Four c = omega (arith, rw c.in-Four.is at c.requires)

pub returns-in-Four : goal.returns-in-Four
returns-in-Four c = rw c.in-Four.is (record { bytes = c.put_four.ensures; end = refl })

pub put-requires-in-Escape : goal.put-requires-in-Escape
put-requires-in-Escape c = omega (arith, rw c.in-Escape.is at c.requires)

pub returns-in-Escape : goal.returns-in-Escape
returns-in-Escape c =
    let place : c.args.at + 1 + 2 ≡ c.args.at + 3 = omega arith in
    rw c.in-Escape.is (record { bytes = rw (place, c.put-in-Escape.ensures, append_assoc) at c.put_two-in-Escape.ensures; end = refl })

pub returns-in-Unmappable : goal.returns-in-Unmappable
returns-in-Unmappable c = rw c.in-Unmappable.is (record { bytes = sym (append-nil _); end = omega arith })
