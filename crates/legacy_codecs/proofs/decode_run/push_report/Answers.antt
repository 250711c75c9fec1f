use Rattle.std.proofs.Common.{◌≡◌, ◌+◌, ◌-◌, refl, sym, arith, append-nil}
use Rattle.legacy_codecs.proofs.decode_run.push_report.Goals as goal

pub returns-in-InputEmpty : goal.returns-in-InputEmpty
returns-in-InputEmpty c =
    record { empty = rw c.in-InputEmpty.is refl; items = rw c.in-InputEmpty.is (sym (append-nil _)); len = omega arith; capacity = omega arith }

pub returns-in-OutputFull : goal.returns-in-OutputFull
returns-in-OutputFull c =
    record { empty = rw c.in-OutputFull.is refl; items = rw c.in-OutputFull.is (sym (append-nil _)); len = omega arith; capacity = omega arith }

pub returns-in-Malformed : goal.returns-in-Malformed
returns-in-Malformed c =
    let m = c.in-Malformed in
    let place : c.args.total - (m.length + m.back) ≡ c.args.total - m.back - m.length = omega arith in
    record {
      empty = rw m.is refl;
      items = rw (m.is, c.push_within.ensures.items, c.malformed_event.ensures, place) refl;
      len = omega (arith, c.push_within.ensures.len);
      capacity = c.push_within.ensures.capacity;
    }
