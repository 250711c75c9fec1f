use Rattle.std.proofs.{Common.{◌≡◌, ℕ, ◌*◌, ◌+◌, ◌/◌, length, take, refl, arith}, lemmas.List.{take_rest, take_all, get_or-drop}}
use Rattle.legacy_decoder_engine.proofs.{LaneUnits.{few_units, scalars_there, next_written}, WrittenReads.{all_short, writes_none}}
use Rattle.legacy_decoder_engine.proofs.lanes.put_codes.Goals as goal

pub put_eight-requires-clause-scalars : goal.put_eight-requires-clause-scalars
put_eight-requires-clause-scalars g c =
    scalars_there _ g.C.LaneCodec.place _ (8 * c.loop-group.group) (8 * ((c.args.most + 7) / 8)) c.args.codes.now c.split_codes.new.codes
    c.split_codes.new.places _ (omega arith) (omega arith) c.split_codes.ensures c.units_of-units.ensures.forms

pub loop-group-preserved : goal.loop-group-preserved
loop-group-preserved g c =
    let T = g.T.Destination in
    let units = c.units_of-units.result in
    let e = c.put_eight.ensures in
    let long : length units ≡ 8 = omega arith in
    let all : take 8 units ≡ units = take_all 8 units (omega arith) in
    let eight : 8 * (c.loop-group.group + 1) ≡ 8 * c.loop-group.group + 8 = omega arith in
    let most = all_short T.form units (λ k h. c.units_of-units.ensures.small k (omega arith)) in
    record {
      within = omega arith;
      slack = omega arith;
      writes = rw eight (next_written _ g.C.LaneCodec.place _ (8 * c.loop-group.group) (8 * ((c.args.most + 7) / 8)) c.args.codes.now
          c.split_codes.new.codes c.split_codes.new.places units (omega arith) long c.split_codes.ensures c.units_of-units.ensures.forms T 8
          (omega arith) c.requires.codes (omega arith) (c.are_known.ensures c.if-not-are_known.false) c.loop-group.invariant.writes
          (rw all e.contents) (rw all e.room) e.loan);
    }

pub put_known-few-requires-clause-scalars : goal.put_known-few-requires-clause-scalars
put_known-few-requires-clause-scalars g c =
    scalars_there _ g.C.LaneCodec.place _ (8 * c.loop-group.group) (8 * ((c.args.most + 7) / 8)) c.args.codes.now c.split_codes.new.codes
    c.split_codes.new.places _ (omega arith) (omega arith) c.split_codes.ensures c.units_of-units-2.ensures.forms

pub returns-clause-writes : goal.returns-clause-writes
returns-clause-writes g c =
    let e = c.put_known-few.ensures in
    next_written _ g.C.LaneCodec.place _ (8 * c.loop-group.group) (8 * ((c.args.most + 7) / 8)) c.args.codes.now c.split_codes.new.codes
    c.split_codes.new.places _ (omega arith) (omega arith) c.split_codes.ensures c.units_of-units-2.ensures.forms g.T.Destination c.put_known-few.result
    (omega arith) c.requires.codes (omega arith) e.known c.loop-group.invariant.writes
    e.contents e.room e.loan

pub returns-clause-slack : goal.returns-clause-slack
returns-clause-slack g c h =
    omega (
      arith,
      few_units g.T.Destination.form c.put_known-few.result c.units_of-units-2.result (omega arith) c.units_of-units-2.ensures.small
          c.put_known-few.ensures.eight,
    )

pub returns-then-entries-eq0-clause-writes : goal.returns-then-entries-eq0-clause-writes
returns-then-entries-eq0-clause-writes g c = record { writes = writes_none g.T.Destination _ _; counted = refl }

pub loop-group-init : goal.loop-group-init
loop-group-init g c = record {
  within = omega arith;
  slack = omega arith;
  writes = record { writes = writes_none g.T.Destination _ _; counted = refl };
}

pub units_of-units-requires-clause-within : goal.units_of-units-requires-clause-within
units_of-units-requires-clause-within g c k h =
    let at : ℕ = 8 * c.loop-group.group in
    rw (take_rest c.split_codes.new.places at, get_or-drop at c.split_codes.new.places k 0)
    (omega (arith, (c.split_codes.ensures (at + k) (omega arith)).1, c.entry_count-entries.ensures.count))

pub returns-then-at-most-clause-writes : goal.returns-then-at-most-clause-writes
returns-then-at-most-clause-writes g c = c.loop-group.invariant.writes

pub units_of-units-requires-2-clause-within : goal.units_of-units-requires-2-clause-within
units_of-units-requires-2-clause-within g c k h =
    let at : ℕ = 8 * c.loop-group.group in
    rw (take_rest c.split_codes.new.places at, get_or-drop at c.split_codes.new.places k 0)
    (omega (arith, (c.split_codes.ensures (at + k) (omega arith)).1, c.entry_count-entries.ensures.count))

pub returns-clause-had : goal.returns-clause-had
returns-clause-had g c = omega (arith, c.loop-group.invariant.writes.writes.room)
