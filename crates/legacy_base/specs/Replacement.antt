-- The events of the replacement decoder (WHATWG Encoding Standard, "replacement decoder").
use Rattle.std.specs.Prelude.{ℕ, List, [], ◌∷◌, Bool, true, false}
use Rattle.legacy_base.specs.declared.results.DecodeEvent.{DecodeEvent}
use Rattle.legacy_base.specs.declared.results.DecodeEvent.TheVariants.{Bad}
use Rattle.legacy_base.specs.Profile.{Profile, byte_profile}
use Rattle.legacy_base.specs.Formulas.{constant}

-- the first byte is malformed and the rest is ignored; there are no events after the report
unfoldable pub replacement_events : Bool → List ℕ → List DecodeEvent
replacement_events true bytes = []
replacement_events false [] = []
replacement_events false (b ∷ bytes) = Bad 0 1 ∷ []

-- the codec, by whether it has reported its error
abbrev pub replacement_profile : Bool → Profile
replacement_profile has_reported = record (byte_profile (replacement_events has_reported)) {
  short_ascii = false;
  reported = has_reported;
  lengths = record { utf16 = constant 1; utf8 = constant 3; utf8_without_replacement = constant 3 };
}
