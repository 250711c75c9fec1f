use Rattle.std.proofs.Common.{arith, refl}
use Rattle.legacy_encoder_engine.specs.declared.moves.EncoderMove.TheVariants.{Two, Four}
use Rattle.legacy_encoder_engine.proofs.PlainServes.{plain_fits, plain_puts}
use Rattle.legacy_encoder_engine.proofs.plain.AnyAheadCodes.put_past_ascii.Goals as goal

pub returns-in-Some : goal.returns-in-Some
returns-in-Some g c =
    let move = Two c.in-Some.lead c.in-Some.trail in
    record {
      puts = plain_puts _ _ (g.C.PlainCodes.plain c.args.self.now) c.args.c move c.in-Some.ensures refl refl _ _ _ _ c.put_two.ensures refl;
      guess = c.requires.guess;
    }

pub returns-in-Some-four_of : goal.returns-in-Some-four_of
returns-in-Some-four_of g c =
    let four = c.in-Some-four_of.four in
    let move = Four four.0 four.1 four.2 four.3 in
    record {
      puts = plain_puts _ _ (g.C.PlainCodes.plain c.args.self.now) c.args.c move c.in-Some-four_of.ensures.code refl refl _ _ _ _ c.put_four.ensures refl;
      guess = c.in-Some-four_of.ensures.guess;
    }

pub returns : goal.returns
returns g c =
    let common = c.has_bytes.ensures c.if-not-has_bytes.false in
    record {
      puts = plain_puts _ _ (g.C.PlainCodes.plain c.args.self.now) c.args.c c.code_of-step.result c.code_of-step.ensures common.0 common.1
          _ _ _ _ c.put_move.ensures.bytes c.put_move.ensures.end;
      guess = c.four_of.ensures.guess;
    }

pub returns-then-not-has_bytes : goal.returns-then-not-has_bytes
returns-then-not-has_bytes g c = record { puts = refl; guess = c.four_of.ensures.guess }

pub four_of-requires-clause-past : goal.four_of-requires-clause-past
four_of-requires-clause-past g c = c.requires.past

pub four_of-requires-clause-guess : goal.four_of-requires-clause-guess
four_of-requires-clause-guess g c = c.requires.guess

pub returns-then-not-GOES_PAST_PAIRS : goal.returns-then-not-GOES_PAST_PAIRS
returns-then-not-GOES_PAST_PAIRS g c = record { puts = refl; guess = c.four_of.ensures.guess }

pub pair_of-requires : goal.pair_of-requires
pair_of-requires g c = c.requires.past

pub put_two-requires : goal.put_two-requires
put_two-requires g c =
    let move = Two c.in-Some.lead c.in-Some.trail in
    omega (arith, plain_fits _ _ (g.C.PlainCodes.plain c.args.self.now) c.args.c move c.in-Some.ensures, c.requires.room)

pub put_four-requires : goal.put_four-requires
put_four-requires g c =
    let four = c.in-Some-four_of.four in
    let move = Four four.0 four.1 four.2 four.3 in
    omega (arith, plain_fits _ _ (g.C.PlainCodes.plain c.args.self.now) c.args.c move c.in-Some-four_of.ensures.code, c.requires.room)

pub put_move-requires : goal.put_move-requires
put_move-requires g c =
    omega (arith, plain_fits _ _ (g.C.PlainCodes.plain c.args.self.now) c.args.c c.code_of-step.result c.code_of-step.ensures, c.requires.room)
