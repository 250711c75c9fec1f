-- Bytes that are read one by one are written.
use Rattle.std.proofs.Common.{◌≡◌, ℕ, ◌+◌, ◌*◌, ◌<◌, ◌≤◌, List, ◌++◌, arith, get_or, length, take}
use Rattle.legacy_text.specs.{declared.destination.Destination.Ghosts, EncodingForm.{bmp_need, code_units}}
use Rattle.legacy_base.specs.{Grammar.Grammar, States.new_state}
use Rattle.legacy_decoder_engine.{specs.ReadAhead.{IsSingle, Writes, ReadsAhead}, proofs.JoinedReads.reads_front}
use Rattle.legacy_decoder_engine.proofs.WrittenReads.{one_unit, short, writes_none, writes_one}

-- The first bytes are written, with at most three code units for each, or one in UTF-16.
pub record AreSingly {D : Type 0} (T : Ghosts D) (g : Grammar) (src : List ℕ) (most at : ℕ) (x y : D) : Type 0 where
  pub within : at ≤ most
  pub room : T.room x ≤ T.room y + 3 * at
  pub narrow : bmp_need T.form ≡ 1 → T.room x ≤ T.room y + at
  pub writes : Writes T g (take at src) x y

pub none_singly : {D : Type 0} (T : Ghosts D) (g : Grammar) (src : List ℕ) (most : ℕ) (x : D) → AreSingly T g src most 0 x x
none_singly T g src most x = record { within = omega arith; room = omega arith; narrow = λ h. omega arith; writes = writes_none T g x }

module _ {D : Type 0} {T : Ghosts D} {g : Grammar} {src : List ℕ} {most at : ℕ} {x y : D} (are : AreSingly T g src most at x y)
    (there : most ≤ length src) (enough : 0 < most → 3 * most + 3 ≤ T.room x) where
  pub reads_singly : ReadsAhead T (new_state g) src at x y
  reads_singly =
      reads_front (omega (arith, are.within, there)) are.writes (λ h. omega (arith, h, are.within, are.room, enough))
      (λ h. omega (arith, h, are.within, enough))

  module _ (below : at < most) (c : ℕ) (single : IsSingle g (get_or src at 0) c) where
    pub room_singly : length (code_units T.form c) ≤ T.room y
    room_singly = omega (arith, short T.form c single.0, below, are.room, enough)

    pub one_singly : {z : D} → T.contents z ≡ T.contents y ++ code_units T.form c → T.room z + length (code_units T.form c) ≡ T.room y
        → T.loan z ≡ T.loan y → AreSingly T g src most (at + 1) x z
    one_singly contents room loan = record {
      within = omega (arith, below);
      room = omega (arith, short T.form c single.0, are.room, room);
      narrow = λ h. omega (arith, one_unit T.form c h single.0, are.narrow h, room);
      writes = writes_one T src at c (omega (arith, below, there)) are.writes single.1 contents room loan;
    }
