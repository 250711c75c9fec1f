use Rattle.std.proofs.{Common.{inl, inr}, lemmas.Result.on_ok_weaker}
use Rattle.legacy_command.proofs.Stopping.{either, failed, flushed_ok, lines_kept, on_err, some_found, some_lines_kept, some_text_kept, text_kept}
use Rattle.legacy_command.proofs.program.recode_and_flush.Goals as goal

pub returns-in-Lines-clause-done : goal.returns-in-Lines-clause-done
returns-in-Lines-clause-done g c =
    let r = c.recode-recoded in
    let f = c.flush_after in
    let done = on_ok_weaker r.result (λ all. lines_kept _ _ _ f.ensures.bytes (_, all)) r.ensures.ok in
    rw c.in-Lines.is (flushed_ok _ r.result f.result f.ensures.ok done)

pub returns-in-Lines-clause-stops : goal.returns-in-Lines-clause-stops
returns-in-Lines-clause-stops g c =
    let r = c.recode-recoded in
    let some =
    either r.result (λ all. (_, inl all)) r.ensures.ok
    (failed r.result (λ e. (_, inr (inl (r.ensures.read e)))) (λ e. (_, inr (inr (r.ensures.write e))))) in
    rw c.in-Lines.is (on_err c.flush_after.result (some_lines_kept _ _ _ c.flush_after.ensures.bytes some))

pub returns-in-Text-clause-done : goal.returns-in-Text-clause-done
returns-in-Text-clause-done g c =
    let r = c.recode_text-recoded in
    let f = c.flush_after-in-Text in
    let done = on_ok_weaker r.result (λ all. text_kept _ _ _ f.ensures.bytes (_, all)) (some_found _ r.result r.ensures.ok) in
    rw c.in-Text.is (flushed_ok _ r.result f.result f.ensures.ok done)

pub returns-in-Text-clause-stops : goal.returns-in-Text-clause-stops
returns-in-Text-clause-stops g c =
    let r = c.recode_text-recoded in
    let found = some_found _ r.result r.ensures.ok in
    let some =
    either r.result (λ all. (_, inl all)) found
    (failed r.result (λ e. (_, inr (inl (r.ensures.read e)))) (λ e. (_, inr (inr (r.ensures.write e))))) in
    rw c.in-Text.is (on_err c.flush_after-in-Text.result (some_text_kept _ _ _ c.flush_after-in-Text.ensures.bytes some))
