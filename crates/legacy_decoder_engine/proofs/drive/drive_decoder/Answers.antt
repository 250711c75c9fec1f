use Rattle.std.proofs.Common.{◌∙◌, [], ◌∷◌, arith, refl, sym, append-nil, add-zero, length-append}
use Rattle.{legacy_text.specs.EncodingForm.code_units, legacy_decoder_engine.proofs.CallUnderWay.{going_start, going_release, call_full_release, call_end}}
use Rattle.legacy_decoder_engine.proofs.{AheadInCalls.{read_going, front_going, left_malformed, byte_going, byte_ends}, Rests.{rest_long, room_kept}}
use Rattle.legacy_decoder_engine.proofs.drive.drive_decoder.Goals.{then-not-rests+else-not-has_room+in-Some, else-not-rests}
use Rattle.legacy_decoder_engine.proofs.drive.drive_decoder.Goals as goal

pub report_malformed-result-requires : goal.report_malformed-result-requires
report_malformed-result-requires g c = (left_malformed _ _ (c.read_ahead-count.ensures.malformed c.if-is_malformed.true)).1

pub returns-then-is_malformed-clause-call : goal.returns-then-is_malformed-clause-call
returns-then-is_malformed-clause-call g c =
    byte_ends g.T.Destination c.args.dst.now (read_going g.T.Destination c.args.dst.now c.loop-decoder.invariant c.read_ahead-count.ensures.read) _ _
    (left_malformed _ _ (c.read_ahead-count.ensures.malformed c.if-is_malformed.true)).0 refl c.report_malformed-result.ensures

pub read_byte-requires : goal.read_byte-requires
read_byte-requires g c =
    (front_going g.T.Destination c.args.dst.now c.loop-decoder.invariant c.read_ahead-count.ensures.read c.hold_back-read.ensures.within
    c.hold_back-read.ensures.holds).1.resting

pub returns-in-Some-read_byte-clause-call : goal.returns-in-Some-read_byte-clause-call
returns-in-Some-read_byte-clause-call g c =
    let i = front_going g.T.Destination c.args.dst.now c.loop-decoder.invariant c.read_ahead-count.ensures.read c.hold_back-read.ensures.within
    c.hold_back-read.ensures.holds in
    byte_ends g.T.Destination c.args.dst.now i _ _ (omega arith) c.in-Some-read_byte.ensures.1 c.in-Some-read_byte.ensures.0

pub loop-decoder-preserved : goal.loop-decoder-preserved
loop-decoder-preserved g c =
    let i = front_going g.T.Destination c.args.dst.now c.loop-decoder.invariant c.read_ahead-count.ensures.read c.hold_back-read.ensures.within
    c.hold_back-read.ensures.holds in
    byte_going g.T.Destination c.args.dst.now i (omega arith) c.in_default-read_byte.ensures

pub finish-requires : goal.finish-requires
finish-requires g c =
    (front_going g.T.Destination c.args.dst.now c.loop-decoder.invariant c.read_ahead-count.ensures.read c.hold_back-read.ensures.within
    c.hold_back-read.ensures.holds).1.resting

pub loop-decoder-init : goal.loop-decoder-init
loop-decoder-init g c =
    let T = g.T.Destination in
    elim c.if-not-rests.branch [
      | then-not-rests+else-not-has_room+in-Some w ↦
          let enough = rw (w.release_need.ensures.units T.form) at (w.has_room.ensures.some w.if-not-has_room.false) in
          rw (w.decoder-is, w.dst-is) (
            w.in-Some.scalar ∷ [],
            going_release (sym c.rests.ensures.is ∙ w.if-not-rests.true) enough w.in-Some.ensures,
            rw (append-nil (code_units T.form w.in-Some.scalar)) w.put.ensures.contents,
            simp length-append (omega arith),
            w.put.ensures.loan,
          )
      | else-not-rests w ↦
          rw (w.decoder-is, w.dst-is) (
            [],
            going_start (sym c.rests.ensures.is ∙ w.if-not-rests.false) c.rests.ensures.allowed,
            sym (append-nil (T.contents c.args.dst.now)),
            add-zero (T.room c.args.dst.now),
            refl,
          )
    ]

pub returns-then-not-has_room-clause-call : goal.returns-then-not-has_room-clause-call
returns-then-not-has_room-clause-call g c =
    let needs = c.release_need.ensures in
    let lacks = rw (needs.units g.T.Destination.form) at (c.has_room.ensures.none c.if-not-has_room.true) in (
      [],
      call_full_release needs.covered c.rests.ensures.allowed (sym c.rests.ensures.is ∙ c.if-not-rests.true) lacks,
      sym (append-nil (g.T.Destination.contents c.args.dst.now)),
    )

pub returns-clause-call : goal.returns-clause-call
returns-clause-call g c =
    let i = front_going g.T.Destination c.args.dst.now c.loop-decoder.invariant c.read_ahead-count.ensures.read c.hold_back-read.ensures.within
    c.hold_back-read.ensures.holds in
    (i.0, rw (← c.if-read-src.true) (call_end i.1 _ i.3 c.if-read-src.true c.finish.ensures), i.2)

pub overflow_add-read : goal.overflow_add-read
overflow_add-read g c = omega (arith, c.read_ahead-count.ensures.read.within, rest_long c.args.src.now c.loop-decoder.read)

pub bounds-src-read : goal.bounds-src-read
bounds-src-read g c = (left_malformed _ _ (c.read_ahead-count.ensures.malformed c.if-is_malformed.true)).0

pub returns-then-is_malformed-clause-room : goal.returns-then-is_malformed-clause-room
returns-then-is_malformed-clause-room g c =
    room_kept g.T.Destination c.args.dst.now (read_going g.T.Destination c.args.dst.now c.loop-decoder.invariant c.read_ahead-count.ensures.read)

pub returns-then-is_malformed-clause-loan : goal.returns-then-is_malformed-clause-loan
returns-then-is_malformed-clause-loan g c =
    (read_going g.T.Destination c.args.dst.now c.loop-decoder.invariant c.read_ahead-count.ensures.read).4

pub returns-in-Some-read_byte-clause-room : goal.returns-in-Some-read_byte-clause-room
returns-in-Some-read_byte-clause-room g c =
    rw c.in-Some-read_byte.ensures.1 (room_kept g.T.Destination c.args.dst.now (front_going g.T.Destination c.args.dst.now c.loop-decoder.invariant
    c.read_ahead-count.ensures.read c.hold_back-read.ensures.within c.hold_back-read.ensures.holds))

pub returns-in-Some-read_byte-clause-loan : goal.returns-in-Some-read_byte-clause-loan
returns-in-Some-read_byte-clause-loan g c =
    rw c.in-Some-read_byte.ensures.1 ((front_going g.T.Destination c.args.dst.now c.loop-decoder.invariant c.read_ahead-count.ensures.read
    c.hold_back-read.ensures.within c.hold_back-read.ensures.holds).4)

pub returns-clause-room : goal.returns-clause-room
returns-clause-room g c =
    room_kept g.T.Destination c.args.dst.now (front_going g.T.Destination c.args.dst.now c.loop-decoder.invariant c.read_ahead-count.ensures.read
    c.hold_back-read.ensures.within c.hold_back-read.ensures.holds)

pub returns-clause-loan : goal.returns-clause-loan
returns-clause-loan g c =
    (front_going g.T.Destination c.args.dst.now c.loop-decoder.invariant c.read_ahead-count.ensures.read c.hold_back-read.ensures.within
    c.hold_back-read.ensures.holds).4

pub put-requires : goal.put-requires
put-requires g c =
    let enough = rw (c.release_need.ensures.units g.T.Destination.form) at (c.has_room.ensures.some c.if-not-has_room.false) in
    omega (arith, c.in-Some.ensures.fits g.T.Destination.form, enough)

pub slice_bounds-hold_back-count : goal.slice_bounds-hold_back-count
slice_bounds-hold_back-count g c = omega (arith, c.read_ahead-count.ensures.read.within, rest_long c.args.src.now c.loop-decoder.read)

pub overflow_add-read-in-loop-decoder : goal.overflow_add-read-in-loop-decoder
overflow_add-read-in-loop-decoder g c =
    let i = front_going g.T.Destination c.args.dst.now c.loop-decoder.invariant c.read_ahead-count.ensures.read c.hold_back-read.ensures.within
    c.hold_back-read.ensures.holds in
    omega (arith, i.1.within)

pub bounds-src-read-in-loop-decoder : goal.bounds-src-read-in-loop-decoder
bounds-src-read-in-loop-decoder g c =
    let i = front_going g.T.Destination c.args.dst.now c.loop-decoder.invariant c.read_ahead-count.ensures.read c.hold_back-read.ensures.within
    c.hold_back-read.ensures.holds in
    omega (arith, i.1.within)
