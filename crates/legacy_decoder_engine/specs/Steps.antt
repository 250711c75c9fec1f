-- The next step of a decoder, and its agreement with the grammar.
use Rattle.std.specs.{Prelude.{ℕ, ◌+◌, ◌≤◌, ◌<◌, ◌≡◌, List, [], ◌∷◌, ◌++◌, true, false, drop, length, Option, Some, None, if◌then◌else◌}, Char.is_ascii}
use Rattle.legacy_base.specs.{Fronts.{Front, reads, malformed, front_length, front_events}, Beginnings.BeginsWith, Events.shift, States.{may_hold, rests}}
use Rattle.legacy_base.specs.{declared.results.DecodeEvent.{DecodeEvent, TheVariants.{Scalar, Bad}}, Grammar.{Grammar, events_of}}

-- what a decoder does with the next byte if no held-back scalar is to be written
pub data Step : Type 0 where
  -- the byte is read, and held back after the others
  hold : Step
  -- the byte is read, and completes the front of the held-back bytes and the byte
  finish : Front → Step
  -- the first n held-back bytes are malformed, and the byte is left unread
  leave : ℕ → Step

-- the scalars that are written, or a malformed sequence
abbrev pub step_events : Step → List DecodeEvent
step_events hold = []
step_events (finish f) = front_events 0 f
step_events (leave n) = Bad 0 n ∷ []

-- the number of bytes at the front that are done with
abbrev pub step_length : Step → ℕ
step_length hold = 0
step_length (finish f) = front_length f
step_length (leave n) = n

-- the held-back bytes after the step
abbrev pub step_held : Step → List ℕ → ℕ → List ℕ
step_held hold held b = held ++ b ∷ []
step_held (finish f) held b = drop (front_length f) (held ++ b ∷ [])
step_held (leave n) held b = drop n held

-- the number of bytes read
abbrev pub step_read : Step → ℕ
step_read (leave n) = 0
step_read s = 1

-- the unread bytes after the step, if `more` is after the byte
abbrev pub step_unread : Step → ℕ → List ℕ → List ℕ
step_unread (leave n) b more = b ∷ more
step_unread s b more = more

-- if it is malformed, it has 1 to 4 bytes
abbrev pub HasMalformedLength : Front → Type 0
HasMalformedLength (reads n scalars) = Unit {0}
HasMalformedLength (malformed n) = (0 < n) × (n ≤ 4)

-- a reported malformed sequence has 1 to 4 bytes
abbrev pub StepMalformed : Step → Type 0
StepMalformed hold = Unit {0}
StepMalformed (finish f) = HasMalformedLength f
StepMalformed (leave n) = HasMalformedLength (malformed n)

-- the law of one step, for every continuation
pub record StepMeets (g : Grammar) (held : List ℕ) (b : ℕ) (s : Step) (to : Grammar) : Type 0 where
  pub goes_on : (more : List ℕ)
      → events_of g (held ++ b ∷ more) ≡ step_events s ++ shift (step_length s) (events_of to (step_held s held b ++ step_unread s b more))
  pub counts : step_length s + length (step_held s held b) ≡ length held + step_read s
  pub malformed_sequence : StepMalformed s
  pub few : length (step_held s held b) ≤ 3
  pub allowed : may_hold to (step_held s held b) ≡ true

-- The held-back scalar of the first n bytes is written, whatever bytes follow.
pub record WriteMeets (g : Grammar) (held : List ℕ) (n c : ℕ) : Type 0 where
  pub goes_on : (more : List ℕ) → events_of g (held ++ more) ≡ Scalar c ∷ shift n (events_of g (drop n held ++ more))
  pub counts : n + length (drop n held) ≡ length held
  pub some : 0 < n
  pub allowed : may_hold g (drop n held) ≡ true

-- the report at the end of input: all held-back bytes
abbrev pub end_events : List ℕ → List DecodeEvent
end_events [] = []
end_events (b ∷ held) = Bad 0 (length (b ∷ held)) ∷ []

-- the events after that report, if bytes follow and the report is the same
abbrev pub ReportMeets : Grammar → List ℕ → List ℕ → Type 0
ReportMeets g held more =
    0 < length held → BeginsWith (events_of g (held ++ more)) (end_events held) →
    events_of g (held ++ more) ≡ end_events held ++ shift (length held) (events_of g more)

-- A decoder's machine: the scalar to write first, with the number of its bytes; the step at a byte; and the grammar
-- after that step.
pub record DecoderMachine : Type 0 where
  pub pending : List ℕ → Option (ℕ × ℕ)
  pub step : List ℕ → ℕ → Step
  pub to : List ℕ → ℕ → Grammar

-- no held-back scalar is ever to be written first
abbrev pub no_pending : List ℕ → Option (ℕ × ℕ)
no_pending held = None

-- no scalar is to be written first exactly if the held-back bytes wait; otherwise it is the scalar that they begin with
abbrev pub PendingMeets : Grammar → List ℕ → Option (ℕ × ℕ) → Type 0
PendingMeets g held None = rests g held ≡ true
PendingMeets g held (Some (n, c)) = (rests g held ≡ false) × WriteMeets g held n c

-- the machine agrees with the grammar from every state
pub record Meets (g : Grammar) (m : DecoderMachine) : Type 0 where
  pub writes : (held : List ℕ) → may_hold g held ≡ true → PendingMeets g held (m.pending held)
  pub steps : (held : List ℕ) (b : ℕ) → may_hold g held ≡ true → rests g held ≡ true → StepMeets g held b (m.step held b) (m.to held b)
  pub ends : (held : List ℕ) → may_hold g held ≡ true → rests g held ≡ true → events_of g held ≡ end_events held
  pub reports : (held more : List ℕ) → may_hold g held ≡ true → rests g held ≡ true → ReportMeets g held more
  pub few : (held : List ℕ) → may_hold g held ≡ true → length held ≤ 3

-- the step at a byte t after n held-back bytes, which together give these scalars; if there are none, the trail rule
-- applies
abbrev pub trail_step : ℕ → List ℕ → ℕ → Step
trail_step n (c ∷ scalars) t = finish (reads (n + 1) (c ∷ scalars))
trail_step n [] t = if is_ascii t then leave n else finish (malformed (n + 1))
