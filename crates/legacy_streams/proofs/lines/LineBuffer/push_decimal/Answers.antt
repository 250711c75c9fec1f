use Rattle.std.proofs.{Common.{◌≡◌, ℕ, ◌-◌, List, take, drop, length, decimal, arith, ◌∙◌, length-drop}, lemmas.{Fmt.decimal_digit, List.take_all}}
use Rattle.legacy_streams.proofs.lines.LineBuffer.push_decimal.Goals as goal

-- the digits from their first place on are all of them
all_digits : (first number : ℕ) (digits : List ℕ) → length digits ≡ 20 → drop first digits ≡ decimal number →
    take (20 - first) (drop first digits) ≡ decimal number
all_digits first number digits long e = take_all (20 - first) (drop first digits) (omega (arith, length-drop first digits)) ∙ e

pub push_all-requires : goal.push_all-requires
push_all-requires c = rw (decimal_digit c.args.number c.if-number-lt10.true) at c.requires

pub returns-then-number-lt10-clause-text : goal.returns-then-number-lt10-clause-text
returns-then-number-lt10-clause-text c = rw (decimal_digit c.args.number c.if-number-lt10.true) c.push_all.ensures.text

pub returns-then-number-lt10-clause-room : goal.returns-then-number-lt10-clause-room
returns-then-number-lt10-clause-room c = rw (decimal_digit c.args.number c.if-number-lt10.true) c.push_all.ensures.room

pub push_all-requires-2 : goal.push_all-requires-2
push_all-requires-2 c = let all = all_digits _ _ _ c.put_digits-first.array_long c.put_digits-first.ensures.digits in rw all c.requires

pub returns-clause-text : goal.returns-clause-text
returns-clause-text c = let all = all_digits _ _ _ c.put_digits-first.array_long c.put_digits-first.ensures.digits in rw all at c.push_all-2.ensures.text

pub returns-clause-room : goal.returns-clause-room
returns-clause-room c = let all = all_digits _ _ _ c.put_digits-first.array_long c.put_digits-first.ensures.digits in rw all at c.push_all-2.ensures.room
