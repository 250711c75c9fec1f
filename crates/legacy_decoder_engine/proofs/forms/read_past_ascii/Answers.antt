use Rattle.std.proofs.Common.{arith, ◌∷◌, []}
use Rattle.legacy_decoder_engine.proofs.{FrontForms.{four_units, two_units, writes_both}, WrittenReads.{writes_put, writes_none, four_fit}}
use Rattle.legacy_decoder_engine.proofs.forms.read_past_ascii.Goals as goal

pub put-requires : goal.put-requires
put-requires g c = four_fit g.T.Destination.form c.in-Single.c (g.T.Destination.room c.args.dst.now) c.requires.room

pub returns-in-Single-clause-writes : goal.returns-in-Single-clause-writes
returns-in-Single-clause-writes g c =
    let e = c.put.ensures in
    writes_put g.T.Destination (c.args.bytes.0 ∷ []) c.in-Single.c c.in-Single.ensures e.contents e.room e.loan

pub returns-in-Single-clause-slack : goal.returns-in-Single-clause-slack
returns-in-Single-clause-slack g c = omega (arith, four_units g.T.Destination.form c.in-Single.c, c.put.ensures.room)

pub put-requires-in-Pair : goal.put-requires-in-Pair
put-requires-in-Pair g c = four_fit g.T.Destination.form c.in-Pair.c (g.T.Destination.room c.args.dst.now) c.requires.room

pub returns-in-Pair-clause-writes : goal.returns-in-Pair-clause-writes
returns-in-Pair-clause-writes g c =
    let e = c.put-in-Pair.ensures in
    writes_put g.T.Destination (c.args.bytes.0 ∷ c.args.bytes.1 ∷ []) c.in-Pair.c c.in-Pair.ensures e.contents e.room e.loan

pub returns-in-Pair-clause-slack : goal.returns-in-Pair-clause-slack
returns-in-Pair-clause-slack g c = omega (arith, four_units g.T.Destination.form c.in-Pair.c, c.put-in-Pair.ensures.room)

pub put-requires-in-Triple : goal.put-requires-in-Triple
put-requires-in-Triple g c = four_fit g.T.Destination.form c.in-Triple.c (g.T.Destination.room c.args.dst.now) c.requires.room

pub returns-in-Triple-clause-writes : goal.returns-in-Triple-clause-writes
returns-in-Triple-clause-writes g c =
    let e = c.put-in-Triple.ensures in
    writes_put g.T.Destination (c.args.bytes.0 ∷ c.args.bytes.1 ∷ c.args.bytes.2 ∷ []) c.in-Triple.c c.in-Triple.ensures e.contents e.room e.loan

pub returns-in-Triple-clause-slack : goal.returns-in-Triple-clause-slack
returns-in-Triple-clause-slack g c = omega (arith, four_units g.T.Destination.form c.in-Triple.c, c.put-in-Triple.ensures.room)

pub put-requires-in-Four : goal.put-requires-in-Four
put-requires-in-Four g c = four_fit g.T.Destination.form c.in-Four.c (g.T.Destination.room c.args.dst.now) c.requires.room

pub returns-in-Four-clause-writes : goal.returns-in-Four-clause-writes
returns-in-Four-clause-writes g c =
    let e = c.put-in-Four.ensures in
    writes_put g.T.Destination (c.args.bytes.0 ∷ c.args.bytes.1 ∷ c.args.bytes.2 ∷ c.args.bytes.3 ∷ []) c.in-Four.c c.in-Four.ensures e.contents e.room e.loan

pub returns-in-Four-clause-slack : goal.returns-in-Four-clause-slack
returns-in-Four-clause-slack g c = omega (arith, four_units g.T.Destination.form c.in-Four.c, c.put-in-Four.ensures.room)

pub put-requires-in-Marked : goal.put-requires-in-Marked
put-requires-in-Marked g c = four_fit g.T.Destination.form c.in-Marked.c (g.T.Destination.room c.args.dst.now) c.requires.room

pub put-requires-in-Marked-2 : goal.put-requires-in-Marked-2
put-requires-in-Marked-2 g c =
    let first = two_units g.T.Destination.form c.in-Marked.c c.in-Marked.ensures.0 in
    let second = two_units g.T.Destination.form c.in-Marked.d c.in-Marked.ensures.1 in
    omega (arith, first, second, c.put-in-Marked.ensures.room, c.requires.room)

pub returns-in-Marked-clause-writes : goal.returns-in-Marked-clause-writes
returns-in-Marked-clause-writes g c =
    let e = c.put-in-Marked.ensures in
    let f = c.put-in-Marked-2.ensures in
    let bytes = c.args.bytes.0 ∷ c.args.bytes.1 ∷ [] in
    writes_both g.T.Destination bytes c.in-Marked.c c.in-Marked.d c.in-Marked.ensures.2 e.contents e.room e.loan f.contents f.room f.loan

pub returns-in-Marked-clause-slack : goal.returns-in-Marked-clause-slack
returns-in-Marked-clause-slack g c =
    let first = two_units g.T.Destination.form c.in-Marked.c c.in-Marked.ensures.0 in
    let second = two_units g.T.Destination.form c.in-Marked.d c.in-Marked.ensures.1 in
    omega (arith, first, second, c.put-in-Marked.ensures.room, c.put-in-Marked-2.ensures.room)

pub returns-in_default-clause-writes : goal.returns-in_default-clause-writes
returns-in_default-clause-writes g c = writes_none g.T.Destination _ _

pub returns-in_default-2-clause-writes : goal.returns-in_default-2-clause-writes
returns-in_default-2-clause-writes g c = writes_none g.T.Destination _ _

pub returns-in_default-3-clause-writes : goal.returns-in_default-3-clause-writes
returns-in_default-3-clause-writes g c = writes_none g.T.Destination _ _

pub returns-in_default-4-clause-writes : goal.returns-in_default-4-clause-writes
returns-in_default-4-clause-writes g c = writes_none g.T.Destination _ _

pub returns-in_default-5-clause-writes : goal.returns-in_default-5-clause-writes
returns-in_default-5-clause-writes g c = writes_none g.T.Destination _ _
