-- The held-back bytes of the gb18030 decoder, and its state between two calls.
use Rattle.std.specs.Prelude.{ℕ, List, [], ◌∷◌}
use Rattle.{legacy_base.specs.{Grammar.gb18030, States.DecoderState}, legacy_chinese.specs.declared.gb18030.decoder.{Gb18030Decoder.Gb18030Decoder, Held.Held}}
use Rattle.legacy_chinese.specs.declared.gb18030.decoder.Held.TheVariants.{Nothing, First, Second, Third, Digit, DigitLead}

-- the held-back bytes
abbrev pub held_bytes : Held → List ℕ
held_bytes Nothing = []
held_bytes (First first) = first.byte ∷ []
held_bytes (Second first second) = first.byte ∷ second.byte ∷ []
held_bytes (Third first second third) = first.byte ∷ second.byte ∷ third.byte ∷ []
held_bytes (Digit digit) = digit.byte ∷ []
held_bytes (DigitLead digit lead) = digit.byte ∷ lead.byte ∷ []

-- the state that the laws of its calls use
abbrev pub gb18030_state : Gb18030Decoder → DecoderState
gb18030_state decoder = record {
  grammar = gb18030 decoder.tables.now.flat.gb18030 decoder.tables.now.flat.ranges;
  held = held_bytes decoder.held;
}
