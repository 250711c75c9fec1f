use Rattle.std.proofs.Common.{arith, append-nil, append_assoc, length-append}
use Rattle.legacy_text.specs.EncodingForm.{code_units}
use Rattle.legacy_decoder_engine.proofs.drive.put_fed.Goals as goal

pub put-requires : goal.put-requires
put-requires g c = rw (c.in-One.is, append-nil (code_units g.T.Destination.form c.in-One.c)) at c.requires

pub returns-in-One-clause-contents : goal.returns-in-One-clause-contents
returns-in-One-clause-contents g c = rw (c.in-One.is, append-nil (code_units g.T.Destination.form c.in-One.c)) c.put.ensures.contents

pub returns-in-One-clause-room : goal.returns-in-One-clause-room
returns-in-One-clause-room g c = rw (c.in-One.is, append-nil (code_units g.T.Destination.form c.in-One.c)) c.put.ensures.room

pub put-requires-in-Two : goal.put-requires-in-Two
put-requires-in-Two g c = let all = rw (c.in-Two.is, length-append) at c.requires in omega arith

pub put-requires-in-Two-2 : goal.put-requires-in-Two-2
put-requires-in-Two-2 g c =
    let all = rw (c.in-Two.is, append-nil (code_units g.T.Destination.form c.in-Two.d), length-append) at c.requires in omega arith

pub returns-in-Two-clause-contents : goal.returns-in-Two-clause-contents
returns-in-Two-clause-contents g c =
    rw (c.in-Two.is, append-nil (code_units g.T.Destination.form c.in-Two.d))
    (rw (c.put-in-Two.ensures.contents, append_assoc) at c.put-in-Two-2.ensures.contents)

pub returns-in-Two-clause-room : goal.returns-in-Two-clause-room
returns-in-Two-clause-room g c = rw (c.in-Two.is, append-nil (code_units g.T.Destination.form c.in-Two.d), length-append) (omega arith)
