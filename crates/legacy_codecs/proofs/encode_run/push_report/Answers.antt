use Rattle.std.proofs.Common.{refl, sym, arith, append-nil}
use Rattle.legacy_codecs.proofs.encode_run.push_report.Goals as goal

pub returns-in-InputEmpty : goal.returns-in-InputEmpty
returns-in-InputEmpty c =
    record { empty = rw c.in-InputEmpty.is refl; items = rw c.in-InputEmpty.is (sym (append-nil _)); len = omega arith; capacity = omega arith }

pub returns-in-OutputFull : goal.returns-in-OutputFull
returns-in-OutputFull c =
    record { empty = rw c.in-OutputFull.is refl; items = rw c.in-OutputFull.is (sym (append-nil _)); len = omega arith; capacity = omega arith }

pub returns-in-Unmappable : goal.returns-in-Unmappable
returns-in-Unmappable c = record {
  empty = rw c.in-Unmappable.is refl;
  items = rw (c.in-Unmappable.is, c.push_within.ensures.items) refl;
  len = omega (arith, c.push_within.ensures.len);
  capacity = c.push_within.ensures.capacity;
}
