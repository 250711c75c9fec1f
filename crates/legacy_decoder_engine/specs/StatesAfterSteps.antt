-- The states after the steps of a decoder.
use Rattle.std.specs.Prelude.{ℕ, suc, ◌≡◌, List, [], ◌∷◌, ◌++◌, Bool, true, ◌&&◌, length, Some}
use Rattle.legacy_base.specs.{Fronts.reads, Grammar.Grammar, States.rests, DecoderActs.{has_marks, is_mark_after}}
use Rattle.legacy_decoder_engine.specs.Steps.{Step, hold, finish}

-- at most one scalar, or a letter and its mark
abbrev pub IsOneOrMarked : Bool → List ℕ → Type 0
IsOneOrMarked marks (c ∷ d ∷ []) = (marks && is_mark_after (Some c) d) ≡ true
IsOneOrMarked marks (c ∷ d ∷ e ∷ scalars) = ⊥
IsOneOrMarked marks scalars = Unit {0}

-- After a byte is held back, no held-back scalar is to be written. After a sequence is read, nothing is held back; the
-- sequence gives at most one scalar, or a letter and a mark of Big5.
abbrev pub Settles : Grammar → List ℕ → ℕ → Step → Type 0
Settles to held b hold = rests to (held ++ b ∷ []) ≡ true
Settles to held b (finish (reads n scalars)) = (n ≡ suc (length held)) × IsOneOrMarked (has_marks to) scalars
Settles to held b s = Unit {0}
