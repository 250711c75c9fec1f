use Rattle.std.proofs.Common.{arith, ◌∷◌, []}
use Rattle.legacy_decoder_engine.proofs.{FrontForms.four_units, WrittenReads.{writes_put, yields_byte, four_fit}}
use Rattle.legacy_decoder_engine.proofs.forms.read_form.Goals as goal

pub put-requires : goal.put-requires
put-requires g c = four_fit g.T.Destination.form c.from.result (g.T.Destination.room c.args.dst.now) c.requires.room

pub returns-then-bytes-lt128-clause-writes : goal.returns-then-bytes-lt128-clause-writes
returns-then-bytes-lt128-clause-writes g c =
    let law = g.met.C.LaneCodec.ascii c.args.forms.now.tables in
    let yields = yields_byte law c.args.bytes.0 c.from.result c.if-bytes-lt128.true c.from.ensures in
    let e = c.put.ensures in
    writes_put g.T.Destination (c.args.bytes.0 ∷ []) c.from.result yields e.contents e.room e.loan

pub returns-then-bytes-lt128-clause-slack : goal.returns-then-bytes-lt128-clause-slack
returns-then-bytes-lt128-clause-slack g c = omega (arith, four_units g.T.Destination.form c.from.result, c.put.ensures.room)
