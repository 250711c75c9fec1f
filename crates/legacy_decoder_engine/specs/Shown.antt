-- All facts about a codec's machine in one record. The proofs for all codecs use only this record.
use Rattle.std.specs.{Prelude.{◌≡◌, ℕ, List, [], ◌∷◌, true, false, Option, Some, None, drop, ◌⊎◌}, Char.is_ascii}
use Rattle.legacy_text.specs.EncodingForm.{unit_count, bmp_need, wide_need}
use Rattle.legacy_base.specs.Lengths.{LengthQuery, query_form, replacement_units, total_need}
use Rattle.legacy_base.specs.{Fronts.reads, Grammar.Grammar, States.{may_hold, rests}, DecoderActs.{has_short_ascii, has_reported, has_marks}}
use Rattle.legacy_decoder_engine.specs.{Steps.{finish, DecoderMachine, Meets}, Moves.SameNeeds, StepUnits.MeetsNeeds, StatesAfterSteps.Settles}

-- the needs of one query are kept
abbrev pub KeepsNeeds : LengthQuery → Grammar → DecoderMachine → Type 0
KeepsNeeds query g m =
    MeetsNeeds (unit_count (query_form query)) (bmp_need (query_form query)) (wide_need (query_form query)) (replacement_units query) (total_need query) g m

-- after a held-back scalar is written, no other one is to be written
abbrev pub WriteSettles : Grammar → List ℕ → Option (ℕ × ℕ) → Type 0
WriteSettles g held None = Unit {0}
WriteSettles g held (Some (n, c)) = rests g (drop n held) ≡ true

-- the facts about a codec's machine
pub record IsShown (g : Grammar) (m : DecoderMachine) : Type 0 where
  -- it agrees with the grammar, and keeps the needs of the three queries
  pub meets : Meets g m
  pub needs : (query : LengthQuery) → KeepsNeeds query g m
  -- the states after steps and after writes
  pub settles : (held : List ℕ) (b : ℕ) → may_hold g held ≡ true → rests g held ≡ true → Settles (m.to held b) held b (m.step held b)
  pub write_settles : (held : List ℕ) → may_hold g held ≡ true → WriteSettles g held (m.pending held)
  -- a step changes no need
  pub same_needs : (held : List ℕ) (b : ℕ) → SameNeeds g (m.to held b)
  pub same_marks : (held : List ℕ) (b : ℕ) → has_marks (m.to held b) ≡ has_marks g
  -- if ASCII needs one code unit, it is its own scalar
  pub ascii_first : has_short_ascii g ≡ true → (b : ℕ) → is_ascii b ≡ true → m.step [] b ≡ finish (reads 1 (b ∷ []))
  -- if no act needs anything, each byte is read and gives nothing
  pub swallows : (has_reported g ≡ false) ⊎ ((held : List ℕ) (b : ℕ) → m.step held b ≡ finish (reads 1 []))
