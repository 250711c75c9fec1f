use Rattle.legacy_chinese.proofs.gb18030.encoder.four_past_pairs_of.Goals as goal

pub pointer_in-requires-clause-part : goal.pointer_in-requires-clause-part
pointer_in-requires-clause-part c = rw c.ranges-2.ensures c.requires.guess

pub returns-then-is_private_use-clause-guess : goal.returns-then-is_private_use-clause-guess
returns-then-is_private_use-clause-guess c = c.requires.guess

pub returns-in-Some-clause-guess : goal.returns-in-Some-clause-guess
returns-in-Some-clause-guess c = c.requires.guess

pub returns-clause-guess : goal.returns-clause-guess
returns-clause-guess c = c.far_pointer.ensures.guess

pub returns-in_err-pointer-clause-guess : goal.returns-in_err-pointer-clause-guess
returns-in_err-pointer-clause-guess c = c.far_pointer.ensures.guess
