-- The proof for all codecs with sequences of one and two bytes, from the few facts that each shows.
use Rattle.std.proofs.{Common.{◌≡◌, ℕ, ◌<◌, ◌≤◌, List, ◌∷◌, length, Bool, true, refl, arith}, lemmas.Bool.false≢true}
use Rattle.legacy_base.specs.{DecoderActs.{full_need, full_need_in, release_need_in}, Fronts.Front, States.state_of, Grammar.Grammar}
use Rattle.{legacy_base.specs.Lengths.{LengthQuery, query_form, total_need}, legacy_tables.specs.{Indexes.FlatIndexes, TableChecks.AreAccepted}}
use Rattle.legacy_decoder_engine.proofs.TwoByteMeets.{IsFirstStep, IsTwoByte, may_is, ascii_first, lead_holds, two_byte_meets}
use Rattle.legacy_decoder_engine.specs.{Steps.Step, LeadMachines.two_byte_machine, StepUnits.{units, IsWidth}, Shown.IsShown, LeadCodecs.IsLeadCodec}
use Rattle.legacy_decoder_engine.proofs.NeedMoves.{narrow_read, Falls, query_slope, HasCosts, sloped_needs}
use Rattle.legacy_decoder_engine.proofs.{CallUnderWay.same_needs, TwoByteCosts.{first_cost, trail_cost}, SettledSteps.trail_settles}

-- The needs of such a codec. A pair fits into the full need. For each two bytes, `paid` code units are enough. The
-- needs of the three queries fall by their slopes, and cover a byte and a lead.
pub record HasTwoByteNeeds (g : Grammar) (scalars : ℕ → ℕ → List ℕ) (paid : ℕ) : Type 0 where
  pub pair_units : (len : ℕ → ℕ) (narrow wide : ℕ) → IsWidth len narrow wide → (lead b : ℕ) → units len (scalars lead b) ≤ full_need narrow wide g
  pub is_paid : (len : ℕ → ℕ) (narrow wide : ℕ) → IsWidth len narrow wide → full_need narrow wide g ≤ paid
  pub falls : (query : LengthQuery) → Falls (total_need query) g length (query_slope paid query)
  pub reads : (query : LengthQuery) (held : List ℕ) → full_need_in (query_form query) g ≤ total_need query (state_of g held) 1
  pub holds : (query : LengthQuery) (b : ℕ) (held : List ℕ) → release_need_in (query_form query) g ≤ total_need query (state_of g (b ∷ held)) 0

module _ (g : Grammar) (front : ℕ → List ℕ → Front) (is_lead_byte : ℕ → Bool) (first : ℕ → Step) (scalars : ℕ → ℕ → List ℕ)
    (is : IsTwoByte g front is_lead_byte first scalars)
    (paid : ℕ) (firsts : (b : ℕ) → IsFirstStep is_lead_byte paid b (first b)) where
  costs : HasTwoByteNeeds g scalars paid → HasCosts g (two_byte_machine g first scalars) length paid
  costs has_needs = record {
    to_is = λ held b. refl;
    cost = λ len narrow wide w held b h r bytes byte.
        grind (arith, false≢true, narrow_read, first_cost, trail_cost, may_is, firsts b, has_needs.pair_units _ _ _ w, has_needs.is_paid _ _ _ w);
  }

  pub two_byte_shown : HasTwoByteNeeds g scalars paid → IsShown g (two_byte_machine g first scalars)
  two_byte_shown has_needs =
      let meets = two_byte_meets g front is_lead_byte first scalars is paid firsts in
      grind (arith, meets, costs has_needs, sloped_needs, trail_settles, false≢true, may_is, same_needs, ascii_first)

-- the facts that the decoder requires, for a codec that has them for each index
module _ (grammar : FlatIndexes → Grammar) (front : FlatIndexes → ℕ → List ℕ → Front) (is_lead_byte : ℕ → Bool) (first : ℕ → Step)
    (scalars : FlatIndexes → ℕ → ℕ → List ℕ)
    (is : (flat : FlatIndexes) → IsTwoByte (grammar flat) (front flat) is_lead_byte first (scalars flat)) (paid : ℕ)
    (firsts : (b : ℕ) → IsFirstStep is_lead_byte paid b (first b)) where
  pub lead_codec : ((flat : FlatIndexes) → AreAccepted flat → HasTwoByteNeeds (grammar flat) (scalars flat) paid)
      → ((b : ℕ) → is_lead_byte b ≡ true → b < 0x100) → IsLeadCodec grammar is_lead_byte first scalars
  lead_codec needs bytes =
      let shown = λ (flat : FlatIndexes). two_byte_shown (grammar flat) (front flat) is_lead_byte first (scalars flat) (is flat) paid firsts in
      grind (arith, shown, needs, λ (flat : FlatIndexes). (is flat).profile_is, ascii_first, lead_holds)
