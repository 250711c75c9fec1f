-- The machine of the EUC-JP decoder, byte by byte.
use Rattle.std.specs.{Prelude.{◌∷◌, ◌||◌, ◌==◌, if◌then◌else◌, ℕ, List, []}, Char.is_ascii}
use Rattle.legacy_base.specs.{Fronts.{reads, malformed}, EucJp.euc_jp_scalars, Grammar.euc_jp, States.is_euc_jp_lead}
use Rattle.legacy_tables.specs.Unicode.{is_katakana_byte, katakana_of}
use Rattle.legacy_decoder_engine.specs.Steps.{Step, hold, finish, DecoderMachine, no_pending, trail_step}

-- the step at a byte if nothing is held back
abbrev pub euc_jp_first : ℕ → Step
euc_jp_first b =
    if is_ascii b then finish (reads 1 (b ∷ []))
    else if (b == 0x8E || b == 0x8F) || is_euc_jp_lead b then hold
    else finish (malformed 1)

-- the step at a byte after these held-back bytes
abbrev pub euc_jp_step : List ℕ → List ℕ → List ℕ → ℕ → Step
euc_jp_step jis0208 jis0212 [] b = euc_jp_first b
euc_jp_step jis0208 jis0212 (lead ∷ []) b =
    if lead == 0x8E
    then (if is_katakana_byte b then finish (reads 2 (katakana_of b ∷ [])) else trail_step 1 [] b)
    else if lead == 0x8F
    then (if is_euc_jp_lead b then hold else trail_step 1 [] b)
    else trail_step 1 (euc_jp_scalars jis0208 lead b) b
euc_jp_step jis0208 jis0212 (first ∷ lead ∷ held) b = trail_step 2 (euc_jp_scalars jis0212 lead b) b

-- the machine
abbrev pub euc_jp_machine : List ℕ → List ℕ → DecoderMachine
euc_jp_machine jis0208 jis0212 = record {
  pending = no_pending;
  step = euc_jp_step jis0208 jis0212;
  to = λ held b. euc_jp jis0208 jis0212;
}
