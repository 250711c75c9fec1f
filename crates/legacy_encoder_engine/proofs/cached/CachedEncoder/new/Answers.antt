use Rattle.std.proofs.{Common.{arith, sym}, lemmas.List.length-take-le}
use Rattle.legacy_encoder_engine.proofs.cached.CachedEncoder.new.Goals as goal

pub returns-then-room-lt-PAIR_ROOM : goal.returns-then-room-lt-PAIR_ROOM
returns-then-room-lt-PAIR_ROOM g c = omega arith

pub slice_bounds-pairs-end : goal.slice_bounds-pairs-end
slice_bounds-pairs-end g c = omega (arith, length-take-le 65536 c.args.room.now (omega arith))

pub fill_pairs-requires : goal.fill_pairs-requires
fill_pairs-requires g c = omega (arith, length-take-le 65536 c.args.room.now (omega arith))

pub returns : goal.returns
returns g c = (omega arith, sym (g.met.E.EncodesPairs.same c.args.encoder.now))
