use Rattle.std.proofs.{Common.{ℕ, arith, refl}, lemmas.List.length-take}
use Rattle.legacy_encoder_engine.proofs.CallUnderWay.{call_finish, call_full_end}
use Rattle.legacy_encoder_engine.proofs.drive.write_end.Goals as goal

pub returns-then-dst-written-lt3 : goal.returns-then-dst-written-lt3
returns-then-dst-written-lt3 g c = record {
  call = λ before source under. call_full_end under c.requires.serves refl refl c.requires.pending (omega (arith, length-take {A = ℕ}));
  written = omega arith;
}

pub put_move-end-requires : goal.put_move-end-requires
put_move-end-requires g c = omega arith

pub returns : goal.returns
returns g c = record {
  call = λ before source under.
      rw c.put_move-end.ensures.bytes
      (call_finish under c.requires.serves refl refl c.requires.pending (c.finish.ensures c.requires.pending) (omega (arith, length-take {A = ℕ})));
  written = omega (arith, c.put_move-end.ensures.end);
}
