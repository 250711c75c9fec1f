-- The steps of EUC-KR agree with its grammar.
use Rattle.std.proofs.Common.{ℕ, ◌≤◌, List, Option, false, refl, arith}
use Rattle.legacy_tables.specs.declared.tables.IndexName.TheVariants.{EucKr}
use Rattle.legacy_tables.proofs.Accepted.{narrow_index}
use Rattle.legacy_base.specs.{EucKr.euc_kr, EucKr.euc_kr_pointer, LeadForms.lead_front, LeadForms.lead_pair, LeadForms.pair_scalars, LeadForms.pointer_scalars}
use Rattle.legacy_base.specs.Profile.{is_lead}
use Rattle.legacy_decoder_engine.specs.{StepUnits.units, StepUnits.IsWidth, StepUnits.IsNarrowIndex, LeadCodecs.IsLeadCodec, LeadMachines.lead_first}
use Rattle.legacy_decoder_engine.specs.StatesAfterSteps.{IsOneOrMarked}
use Rattle.legacy_decoder_engine.proofs.{SettledSteps.one_option, Widths.narrow_idx_units, TwoByteShown.HasTwoByteNeeds, TwoByteShown.lead_codec}
use Rattle.legacy_decoder_engine.proofs.TwoByteMeets.{IsTwoByte, is_lead-past, lead_byte_below, lead_first_is, lead_front_is}

one : (index : List ℕ) (pointer : Option ℕ) → IsOneOrMarked false (pointer_scalars index pointer)
one index pointer = grind (arith, one_option)

scalar_units : (len : ℕ → ℕ) (narrow wide : ℕ) → IsWidth len narrow wide → (index : List ℕ) → IsNarrowIndex index
    → (pointer : Option ℕ) → units len (pointer_scalars index pointer) ≤ narrow
scalar_units len narrow wide w index below pointer = grind (arith, narrow_idx_units len narrow wide w index)

is : (index : List ℕ) → IsTwoByte (euc_kr index) (lead_front is_lead euc_kr_pointer index) is_lead (lead_first is_lead) (pair_scalars euc_kr_pointer index)
unfolding lead_front lead_pair
is index = grind (arith, lead_front_is, one)

needs : (index : List ℕ) → IsNarrowIndex index → HasTwoByteNeeds (euc_kr index) (pair_scalars euc_kr_pointer index) 3
needs index below =
    let pairs = λ (len : ℕ → ℕ) (narrow wide : ℕ) (w : IsWidth len narrow wide) (a b : ℕ). scalar_units len narrow wide w index below (euc_kr_pointer a b) in
    grind (arith, pairs)

pub euc_kr_codec : IsLeadCodec (λ flat. euc_kr flat.euc_kr) is_lead (lead_first is_lead) (λ flat. pair_scalars euc_kr_pointer flat.euc_kr)
euc_kr_codec = lead_codec (λ flat. euc_kr flat.euc_kr) (λ flat. lead_front is_lead euc_kr_pointer flat.euc_kr) is_lead (lead_first is_lead)
    (λ flat. pair_scalars euc_kr_pointer flat.euc_kr) (λ flat. is flat.euc_kr) 3 (lead_first_is is_lead is_lead-past 3 (omega arith))
    (λ flat accepted. needs flat.euc_kr (narrow_index flat accepted EucKr refl).0) (lead_byte_below is_lead is_lead-past)
