-- Which encodings have pairs.
use Rattle.std.specs.Prelude.{Bool, true, false}
use Rattle.legacy_coders.specs.declared.coders.AnyEncoder.{AnyEncoder}
use Rattle.legacy_coders.specs.declared.coders.AnyEncoder.TheVariants.{SingleByte, UserDefined}

-- an encoder is of an encoding whose scalars past ASCII mostly have a lead and a trail
abbrev pub has_pairs : AnyEncoder → Bool
has_pairs (SingleByte coder) = false
has_pairs (UserDefined coder) = false
has_pairs _ = true
