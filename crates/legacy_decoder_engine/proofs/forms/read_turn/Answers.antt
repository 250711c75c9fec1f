use Rattle.std.proofs.Common.{arith, get_or, refl}
use Rattle.legacy_decoder_engine.proofs.{FrontForms.{front_bytes, four_units}, WrittenReads.{writes_none, writes_one, yields_byte, four_fit}}
use Rattle.legacy_decoder_engine.proofs.forms.read_turn.Goals as goal

pub put-requires : goal.put-requires
put-requires g c = four_fit g.T.Destination.form c.from.result (g.T.Destination.room c.args.dst.now) c.requires.room

pub returns-then-begins_ascii-clause-writes : goal.returns-then-begins_ascii-clause-writes
returns-then-begins_ascii-clause-writes g c =
    let src = c.args.src.now in
    let T = g.T.Destination in
    let law = g.met.C.LaneCodec.ascii c.args.forms.now.tables in
    let yields = yields_byte law (get_or src 0 0) c.from.result (c.begins_ascii.ensures c.if-begins_ascii.true) c.from.ensures in
    let e = c.put.ensures in
    writes_one T src 0 c.from.result (omega arith) (writes_none T _ c.args.dst.now) yields e.contents e.room e.loan

pub returns-then-begins_ascii-clause-slack : goal.returns-then-begins_ascii-clause-slack
returns-then-begins_ascii-clause-slack g c = omega (arith, four_units g.T.Destination.form c.from.result, c.put.ensures.room)

pub returns-clause-writes : goal.returns-clause-writes
returns-clause-writes g c =
    let src = c.args.src.now in
    let read = c.read_form-read.result in
    let e = front_bytes src (get_or src 1 0) (get_or src 2 0) (get_or src 3 0) read (omega arith) (omega arith) (λ h. refl) (λ h. refl) (λ h. refl) in
    rw e at c.read_form-read.ensures.writes
