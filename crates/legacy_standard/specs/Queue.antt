-- The items that a decoder's handler reads, and its results (Encoding Standard, "Encoders and decoders").
use Rattle.std.specs.Prelude.{ℕ, ◌==◌, List, [], ◌∷◌, Option, Some, None, not, if◌then◌else◌}
use Rattle.std.specs.Int.{is_in_range}
use Rattle.std.specs.Char.{is_ascii}

-- an item of a queue of bytes
pub data Item : Type 0 where
  byte : ℕ → Item
  end_of_queue : Item

-- the result of a handler
pub data Outcome : Type 0 where
  continue : Outcome
  finished : Outcome
  error : Outcome
  code_points : List ℕ → Outcome

-- A handler's result, its state after it, and the items that it restores to the beginning of the queue.
pub record HandledAs (Result State : Type 0) : Type 0 where
  pub outcome : Result
  pub state : State
  pub restored : List ℕ

-- the same for a decoder
abbrev pub Handled : Type 0 → Type 0
Handled State = HandledAs Outcome State

-- a result with these items restored
abbrev pub restores : {Result State : Type 0} → List ℕ → Result → State → HandledAs Result State
restores items outcome state = record { outcome = outcome; state = state; restored = items }

-- a result with no items restored
abbrev pub returns : {Result State : Type 0} → Result → State → HandledAs Result State
returns outcome state = restores [] outcome state

-- one code point
abbrev pub code_point : ℕ → Outcome
code_point c = code_points (c ∷ [])

-- a code point, or error if it is null
abbrev pub code_point_or_error : Option ℕ → Outcome
code_point_or_error (Some c) = code_point c
code_point_or_error None = error

-- The last steps after a leading byte: a code point that is not null is returned; otherwise an ASCII byte is restored,
-- and error is returned.
abbrev pub return_or_error : {State : Type 0} → Option ℕ → ℕ → State → Handled State
return_or_error (Some c) b state = returns (code_point c) state
return_or_error None b state = if is_ascii b then restores (b ∷ []) error state else returns error state

-- ---- decoders whose state is a leading byte, initially 0x00

-- the result at the end of the queue
abbrev pub end_with_leading : ℕ → Handled ℕ
end_with_leading leading = if not (leading == 0x00) then returns error 0x00 else returns finished leading

-- the handler of the "Big5 decoder" and the "EUC-KR decoder", by the steps with a leading byte
abbrev pub lead_handler : (ℕ → ℕ → Handled ℕ) → ℕ → Item → Handled ℕ
lead_handler trailing leading end_of_queue = end_with_leading leading
lead_handler trailing leading (byte b) =
    if not (leading == 0x00) then trailing leading b
    else if is_ascii b then returns (code_point b) leading
    else if is_in_range 0x81 0xFE b then returns continue b
    else returns error leading
