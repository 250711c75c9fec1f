-- The events of decoding.
use Rattle.std.specs.Prelude.{ℕ, ◌+◌, List, [], ◌∷◌}
use Rattle.legacy_base.specs.declared.results.DecodeEvent.{DecodeEvent}
use Rattle.legacy_base.specs.declared.results.DecodeEvent.TheVariants.{Scalar, Bad}

-- an event k places later; a scalar has no place
abbrev pub shift_event : ℕ → DecodeEvent → DecodeEvent
shift_event k (Scalar c) = Scalar c
shift_event k (Bad place length) = Bad (k + place) length

-- the events of a list that begins k places later
abbrev pub shift : ℕ → List DecodeEvent → List DecodeEvent
shift k [] = []
shift k (event ∷ events) = shift_event k event ∷ shift k events
