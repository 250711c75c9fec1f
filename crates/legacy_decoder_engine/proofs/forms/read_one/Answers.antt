use Rattle.std.proofs.Common.{arith}
use Rattle.legacy_decoder_engine.proofs.{FrontForms.front_bytes, JoinedReads.reads_written}
use Rattle.legacy_decoder_engine.proofs.forms.read_one.Goals as goal

pub returns : goal.returns
returns g c =
    let e = front_bytes c.args.src.now _ _ _ c.read_form.result (omega arith) (omega arith) c.byte_at.ensures c.byte_at-2.ensures c.byte_at-3.ensures in
    reads_written (omega arith) (rw e at c.read_form.ensures.writes) (omega arith) (omega arith)
