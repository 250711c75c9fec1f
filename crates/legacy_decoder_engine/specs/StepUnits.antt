-- The code units that a move of a decoder writes, and their bounds.
use Rattle.std.specs.Prelude.{ℕ, ◌+◌, ◌*◌, ◌<◌, ◌≤◌, ◌≡◌, List, [], ◌∷◌, true, false, drop, length, All, Option, Some, None}
use Rattle.{legacy_tables.specs.Unicode.{IsByte, AreBytes}, legacy_base.specs.DecoderActs.{takes, writes, act_need}}
use Rattle.legacy_base.specs.{Grammar.Grammar, States.{DecoderState, state_of, may_hold, rests}, Fronts.{reads, malformed}}
use Rattle.legacy_decoder_engine.specs.Steps.{Step, hold, finish, leave, step_held, DecoderMachine}

-- the number of code units of scalars
abbrev pub units : (ℕ → ℕ) → List ℕ → ℕ
units len [] = 0
units len (c ∷ scalars) = len c + units len scalars

-- the code units that a step writes, with `report` for a malformed sequence
abbrev pub step_units : (ℕ → ℕ) → ℕ → Step → ℕ
step_units len report hold = 0
step_units len report (finish (reads n scalars)) = units len scalars
step_units len report (finish (malformed n)) = report
step_units len report (leave n) = report

-- 1 if the byte is still to be read, and 0 if it was read
abbrev pub step_left : Step → ℕ
step_left (leave n) = 1
step_left s = 0

-- The common properties of the code units of UTF-8 and UTF-16. `narrow` is the number of code units of U+FFFD, and of
-- the longest scalar up to U+FFFF. `wide` is that of the longest scalar.
pub record IsWidth (len : ℕ → ℕ) (narrow wide : ℕ) : Type 0 where
  pub ascii : (c : ℕ) → c < 0x80 → len c ≡ 1
  pub two : (c : ℕ) → c < 0x800 → len c + len c ≤ wide
  pub bmp : (c : ℕ) → c < 0x1_0000 → len c ≤ narrow
  pub every : (c : ℕ) → len c ≤ wide
  pub some : 1 ≤ narrow
  pub most : narrow ≤ 3
  pub rises : narrow ≤ wide
  pub twice : wide ≤ narrow + 1

-- no entry is above U+FFFF
abbrev pub IsNarrowIndex : List ℕ → Type 0
IsNarrowIndex index = All (λ c. c < 0x1_0000) index

-- The bounds of what a step writes: the need of reading the byte, and the need that n fewer bytes save. `wt` is the
-- weight of the held-back bytes. The last bound counts no malformed sequence: `slope` for each byte pays for twice the
-- code units written.
pub record Cost (len : ℕ → ℕ) (narrow at_most : ℕ) (wt : List ℕ → ℕ) (slope : ℕ) (held : List ℕ) (b : ℕ) (s : Step) : Type 0 where
  pub fits : step_units len narrow s ≤ at_most
  pub pays : step_units len narrow s + narrow * (wt (step_held s held b) + step_left s) ≤ narrow * (wt held + 1)
  pub pays_without : 2 * step_units len 0 s + slope * (wt (step_held s held b) + step_left s) ≤ slope * (wt held + 1)

-- a held-back scalar in the first k bytes has its room, and the total need falls by its code units
abbrev pub WritePays : (ℕ → ℕ) → ℕ → ℕ → (DecoderState → ℕ → ℕ) → Grammar → List ℕ → Option (ℕ × ℕ) → Type 0
WritePays len narrow wide total_need g held None = Unit {0}
WritePays len narrow wide total_need g held (Some (k, c)) =
    (len c ≤ act_need narrow wide (state_of g held) writes)
    × ((n : ℕ) → total_need (state_of g (drop k held)) n + len c ≤ total_need (state_of g held) n)

-- Each move has its room, and lowers the total need by what it writes (and by `report` for a malformed sequence).
-- The total need covers reading a byte, and writing or reporting the held-back bytes.
pub record MeetsNeeds (len : ℕ → ℕ) (narrow wide report : ℕ) (total_need : DecoderState → ℕ → ℕ) (g : Grammar) (m : DecoderMachine) : Type 0 where
  pub step_fits : (held : List ℕ) (b : ℕ) → may_hold g held ≡ true → rests g held ≡ true → AreBytes held → IsByte b →
      step_units len narrow (m.step held b) ≤ act_need narrow wide (state_of g held) (takes b)
  pub step_pays : (held : List ℕ) (b n : ℕ) → may_hold g held ≡ true → rests g held ≡ true → AreBytes held → IsByte b →
      total_need (state_of (m.to held b) (step_held (m.step held b) held b)) (n + step_left (m.step held b)) + step_units len report (m.step held b)
      ≤ total_need (state_of g held) (n + 1)
  pub write_pays : (held : List ℕ) → may_hold g held ≡ true → rests g held ≡ false → AreBytes held
      → WritePays len narrow wide total_need g held (m.pending held)
  pub report_pays : (b : ℕ) (held : List ℕ) → may_hold g (b ∷ held) ≡ true → rests g (b ∷ held) ≡ true
      → total_need (state_of g []) 0 + report ≤ total_need (state_of g (b ∷ held)) 0
  pub reads_covered : (held : List ℕ) (b n : ℕ) → may_hold g held ≡ true → 0 < n
      → act_need narrow wide (state_of g held) (takes b) ≤ total_need (state_of g held) n
  pub holds_covered : (held : List ℕ) (n : ℕ) → may_hold g held ≡ true → 0 < length held
      → act_need narrow wide (state_of g held) writes ≤ total_need (state_of g held) n
