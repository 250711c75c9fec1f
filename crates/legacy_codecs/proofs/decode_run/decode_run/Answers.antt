use Rattle.std.proofs.Common.{arith}
use Rattle.legacy_codecs.proofs.decode_run.decode_run.Goals as goal

pub run_calls-requires : goal.run_calls-requires
run_calls-requires g c = record {
  buffer = λ k d h. let small = c.in_ok-events.ensures.output k d h in omega (arith, c.as_mut_slice-buffer.ensures.len);
  empty = c.in_ok-events.ensures.empty;
  room = c.in_ok-events.ensures.room;
  total = c.in_ok-events.ensures.total;
}

pub returns : goal.returns
returns g c = record {
  run = (c.in_ok-events.ensures.sound, c.run_calls.ensures);
  too_long = ((λ e. cc), (λ h. let e = c.in_ok-events.ensures.too_long.1 h in cc));
  unchanged = tt;
}
