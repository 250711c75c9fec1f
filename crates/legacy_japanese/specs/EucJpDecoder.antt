-- The held-back bytes of the EUC-JP decoder, and its state between two calls.
use Rattle.std.specs.Prelude.{ℕ, List, [], ◌∷◌}
use Rattle.legacy_base.specs.{Grammar.euc_jp, States.DecoderState}
use Rattle.legacy_japanese.specs.declared.euc_jp.decoder.{EucJpDecoder.EucJpDecoder, Held.{Held, TheVariants.{Nothing, Katakana, Jis0212, Lead, Jis0212Lead}}}

-- the held-back bytes
abbrev pub held_bytes : Held → List ℕ
held_bytes Nothing = []
held_bytes Katakana = 0x8E ∷ []
held_bytes Jis0212 = 0x8F ∷ []
held_bytes (Lead lead) = lead.byte ∷ []
held_bytes (Jis0212Lead lead) = 0x8F ∷ lead.byte ∷ []

-- the state that the laws of its calls use
abbrev pub euc_jp_state : EucJpDecoder → DecoderState
euc_jp_state decoder = record {
  grammar = euc_jp decoder.tables.now.flat.jis0208 decoder.tables.now.flat.jis0212;
  held = held_bytes decoder.held;
}
