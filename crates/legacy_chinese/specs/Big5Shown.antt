-- The steps of Big5 agree with its grammar.
use Rattle.std.{proofs.Common.{ℕ, ◌<◌, ◌≤◌, List, [], ◌∷◌, Option, arith}, specs.Option.option_map_or}
use Rattle.legacy_base.specs.{Big5.{big5_front, big5_pair, big5_pointer, big5_scalars}, Grammar.big5, States.is_lead}
use Rattle.legacy_decoder_engine.proofs.{SettledSteps.{one_test, one_option}, TwoByteCosts.units_test, TwoByteShown.{HasTwoByteNeeds, lead_codec}}
use Rattle.legacy_decoder_engine.proofs.{TwoByteMeets.{IsTwoByte, is_lead-past, lead_byte_below, lead_first_is, lead_front_is}, Widths.idx_units}
use Rattle.legacy_decoder_engine.specs.{LeadCodecs.IsLeadCodec, LeadMachines.lead_first, StepUnits.{units, IsWidth}}

-- the scalars of a lead and a trail, if they have a pointer with scalars
abbrev pub big5_pair_scalars : List ℕ → ℕ → ℕ → List ℕ
big5_pair_scalars index lead trail = option_map_or (big5_scalars index) (big5_pointer lead trail) []

module _ (len : ℕ → ℕ) (narrow wide : ℕ) (w : IsWidth len narrow wide) where
  two_units : (c d : ℕ) → c < 0x800 → d < 0x800 → units len (c ∷ d ∷ []) ≤ wide
  two_units c d h k = let p = w.two c h in let q = w.two d k in omega arith

  scalar_units : (index : List ℕ) (o : Option ℕ) → units len (option_map_or (big5_scalars index) o []) ≤ wide
  scalar_units index o = grind (arith, units_test, two_units, idx_units)

is : (index : List ℕ) → IsTwoByte (big5 index) (big5_front index) is_lead (lead_first is_lead) (big5_pair_scalars index)
unfolding big5_front big5_pair
is index = grind (arith, lead_front_is, one_test, one_option)

needs : (index : List ℕ) → HasTwoByteNeeds (big5 index) (big5_pair_scalars index) 4
needs index = grind (arith, scalar_units)

pub big5_codec : IsLeadCodec (λ flat. big5 flat.big5) is_lead (lead_first is_lead) (λ flat. big5_pair_scalars flat.big5)
big5_codec =
    lead_codec (λ flat. big5 flat.big5) (λ flat. big5_front flat.big5) is_lead (lead_first is_lead) (λ flat. big5_pair_scalars flat.big5)
    (λ flat. is flat.big5) 4 (lead_first_is is_lead is_lead-past 4 (omega arith)) (λ flat accepted. needs flat.big5) (lead_byte_below is_lead is_lead-past)
