-- The codecs whose sequences are one byte, or a lead and a trail: what their common decoder requires of each.
use Rattle.std.specs.{Prelude.{◌≡◌, ℕ, ◌<◌, ◌≤◌, List, [], ◌∷◌, Bool, true, false, length, Option, Some, None}, Char.is_ascii}
use Rattle.legacy_base.specs.{States.{DecoderState, single_lead_may_hold, may_hold, rests, begins_in_ascii}, Fronts.reads, Grammar.Grammar, Lengths.weight}
use Rattle.{legacy_base.specs.DecoderActs.{has_short_ascii, has_reported}, legacy_tables.specs.{TableChecks.AreAccepted, AcceptedTables.AcceptedIndexes}}
use Rattle.{legacy_tables.specs.Indexes.FlatIndexes, legacy_decoder_engine.specs.{Steps.{Step, hold, finish}, LeadMachines.two_byte_machine, Shown.IsShown}}

-- a byte past ASCII
abbrev pub IsPastAscii : ℕ → Type 0
IsPastAscii b = (0x80 ≤ b) × (b < 0x100)

-- the byte of a lead, or nothing
abbrev pub held_bytes : {L : Type 0} → (L → ℕ) → Option L → List ℕ
held_bytes byte None = []
held_bytes byte (Some lead) = byte lead ∷ []

-- the state of such a decoder between two calls
abbrev pub lead_state : {L : Type 0} → (FlatIndexes → Grammar) → (L → ℕ) → AcceptedIndexes → Option L → DecoderState
lead_state grammar byte tables held = record { grammar = grammar tables.flat; held = held_bytes byte held }

-- the requirements on the grammar, given the flat indexes, the leads, the first step and the pairs
pub record IsLeadCodec (grammar : FlatIndexes → Grammar) (is_lead_byte : ℕ → Bool) (first : ℕ → Step) (scalars : FlatIndexes → ℕ → ℕ → List ℕ) : Type 0 where
  pub shown : (flat : FlatIndexes) → AreAccepted flat → IsShown (grammar flat) (two_byte_machine (grammar flat) first (scalars flat))
  pub may_is : (flat : FlatIndexes) (held : List ℕ) → may_hold (grammar flat) held ≡ single_lead_may_hold is_lead_byte held
  pub rests_is : (flat : FlatIndexes) (held : List ℕ) → rests (grammar flat) held ≡ true
  pub weight_is : (flat : FlatIndexes) (held : List ℕ) → weight (grammar flat) held ≡ length held
  pub short_ascii : (flat : FlatIndexes) → has_short_ascii (grammar flat) ≡ true
  pub unreported : (flat : FlatIndexes) → has_reported (grammar flat) ≡ false
  pub neutral : (flat : FlatIndexes) → begins_in_ascii (grammar flat) ≡ true
  pub ascii_first : (b : ℕ) → is_ascii b ≡ true → first b ≡ finish (reads 1 (b ∷ []))
  pub lead_first : (b : ℕ) → is_lead_byte b ≡ true → first b ≡ hold
  pub bytes : (b : ℕ) → is_lead_byte b ≡ true → b < 0x100
