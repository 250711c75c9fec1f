-- The malformed sequences of an input, with the places that a caller counts.
use Rattle.std.specs.Prelude.{ℕ, ◌-◌, List, [], ◌∷◌}
use Rattle.legacy_base.specs.declared.results.DecodeEvent.{DecodeEvent}
use Rattle.legacy_base.specs.declared.results.DecodeEvent.TheVariants.{Scalar, Bad}
use Rattle.legacy_codecs.specs.declared.malformed.MalformedSequence.{MalformedSequence}

-- The malformed sequences among events, in their order. A place is counted from the first byte after the `held` ones
-- that a decoder held back, and is 0 if the sequence begins among those.
unfoldable pub malformed_of : ℕ → List DecodeEvent → List MalformedSequence
malformed_of held [] = []
malformed_of held (Scalar c ∷ events) = malformed_of held events
malformed_of held (Bad place length ∷ events) = record { place = place - held; length = length } ∷ malformed_of held events
