use Rattle.std.proofs.{Common.{inl, inr}, lemmas.Result.on_ok_weaker}
use Rattle.legacy_command.proofs.Stopping.{all_kept, either, encoded_kept, failed, flushed_ok, on_err}
use Rattle.legacy_command.proofs.encode_program.encode_by.Goals as goal

pub returns-clause-done : goal.returns-clause-done
returns-clause-done g c =
    let e = c.encode_text-encoded in
    let f = c.flush_after in
    flushed_ok _ e.result f.result f.ensures.ok (on_ok_weaker e.result (λ all. (_, all_kept f.ensures.bytes all)) e.ensures.ok)

pub returns-clause-stops : goal.returns-clause-stops
returns-clause-stops g c =
    let e = c.encode_text-encoded in
    let stops = failed e.result (λ h. (_, inr (inl (e.ensures.read h)))) (λ h. (_, inr (inr (e.ensures.write h)))) in
    on_err c.flush_after.result (encoded_kept c.flush_after.ensures.bytes (either e.result (λ all. (_, inl all)) e.ensures.ok stops))
