-- The lines for events.
use Rattle.std.specs.Prelude.{ℕ, zero, suc, ◌+◌, ◌-◌, List, [], ◌∷◌, ◌++◌, true, length, replicate, decimal, codes}
use Rattle.std.specs.Fmt.{digits}
use Rattle.legacy_base.specs.declared.results.DecodeEvent.{DecodeEvent}
use Rattle.legacy_base.specs.declared.results.DecodeEvent.TheVariants.{Scalar, Bad}

-- a scalar in upper-case hexadecimal, padded with zeros to at least four digits
unfoldable pub hexadecimal : ℕ → List ℕ
hexadecimal c = let found = digits 16 true c in replicate (4 - length found) 48 ++ found

-- the line of an event: `U+0041`, or `bad 3 1` with place and length in decimal
unfoldable pub event_line : DecodeEvent → List ℕ
event_line (Scalar c) = codes "U+" ++ hexadecimal c ++ codes "\n"
event_line (Bad place length) = codes "bad " ++ decimal place ++ codes " " ++ decimal length ++ codes "\n"

-- the lines of events
unfoldable pub event_lines : List DecodeEvent → List ℕ
event_lines [] = []
event_lines (event ∷ events) = event_line event ++ event_lines events

-- the events of `count` malformed sequences of one byte each, one after another from a place on
unfoldable pub malformed_events : ℕ → ℕ → List DecodeEvent
malformed_events place zero = []
malformed_events place (suc count) = Bad place 1 ∷ malformed_events (place + 1) count
