-- The rest of a source, as the code takes it, and what a call in progress keeps of a destination.
use Rattle.std.proofs.lemmas.List.{take_rest}
use Rattle.std.proofs.Common.{◌≡◌, ℕ, ◌+◌, ◌-◌, List, Bool, length, take, drop, ap, arith, length-append, length-drop}
use Rattle.{legacy_text.specs.{declared.destination.Destination.Ghosts, EncodingForm.all_code_units}, legacy_base.specs.States.DecoderState}
use Rattle.legacy_decoder_engine.proofs.{AheadInCalls.IsUnderWay}

pub rest_long : (source : List ℕ) (at : ℕ) → length (take (length source - at) (drop at source)) ≡ length source - at
rest_long source at = omega (arith, ap length (take_rest source at), length-drop at source)

pub room_kept : {D : Type 0} (T : Ghosts D) {last : Bool} {before now : DecoderState} {source : List ℕ} {read : ℕ} (first : D) {new : D}
    → IsUnderWay T last before source first now read new → T.room new + length (T.contents new) ≡ T.room first + length (T.contents first)
room_kept T first i = omega (arith, ap length i.2, length-append (T.contents first) (all_code_units T.form i.0), i.3)
