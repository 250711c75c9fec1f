use Rattle.std.proofs.{Common.{bit_and, ◌∙◌}, lemmas.Nat.and_mask}
use Rattle.legacy_text.proofs.ScalarTurns.{each_sixteenth}
use Rattle.legacy_text.proofs.scalar_turns.tails_at.Goals as goal

pub returns : goal.returns
returns c = λ k h. each_sixteenth bit_and 63 c.args.bytes.now c.args.place c.requires k h ∙ and_mask _ 6
