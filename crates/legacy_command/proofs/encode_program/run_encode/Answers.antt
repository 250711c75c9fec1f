use Rattle.std.proofs.Common.{sym, ◌∙◌, inl, inr, arith, refl}
use Rattle.legacy_command.proofs.CommandLine.{has_its_encoder, works_with}
use Rattle.legacy_command.proofs.encode_program.run_encode.Goals as goal

pub read_and_encode-requires-clause-encoder : goal.read_and_encode-requires-clause-encoder
read_and_encode-requires-clause-encoder g c = has_its_encoder _ _ (sym c.encoder_in.ensures ∙ c.in-Some.is)

pub returns-in-Ok : goal.returns-in-Ok
returns-in-Ok g c =
    let named = sym c.encoder_in.ensures ∙ c.in-Some.is in
    record {
      statuses = omega arith;
      usage = (λ e. absurd (omega arith), λ none. absurd cc);
      unread = λ e. absurd (omega arith);
      encoded = λ e. works_with _ _ c.args.words.now _ named c.in-Ok.ensures.well_formed c.in-Ok.ensures.encoded;
      stops = λ e. absurd (omega arith);
      silent = λ e. refl;
    }

pub returns-in-Err : goal.returns-in-Err
returns-in-Err g c =
    let named = sym c.encoder_in.ensures ∙ c.in-Some.is in
    record {
      stops = λ e. elim c.in-Err.ensures.stops [
        | inl untouched ↦ inl untouched
        | inr by ↦ inr (works_with _ _ c.args.words.now _ named by.0 by.1)
      ];
      statuses = omega arith;
      usage = (λ e. absurd (omega arith), λ none. absurd cc);
      unread = λ e. absurd (omega arith);
      encoded = λ e. absurd (omega arith);
      silent = λ e. absurd (omega arith);
    }
