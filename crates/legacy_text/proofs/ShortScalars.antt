-- Scalars that were written as one byte each, also by blocks, and the scalars of one and two bytes of UTF-8.
use Rattle.std.proofs.Common.{◌≡◌, ℕ, ◌+◌, ◌-◌, ◌*◌, ◌≤◌, ◌<◌, List, [], ◌∷◌, ◌++◌, length, get_or, true, drop, sym, ap, arith, append_assoc, append-nil}
use Rattle.std.proofs.{Common.{length-append, length-drop, take, IsAscii}, lemmas.{Bool.Decides.nat_tests, Grind.common_steps, List.get_or_append_left}}
use Rattle.std.proofs.lemmas.{List.{get_or-append-add, get_or-drop, drop-drop, length-take-le, get_or-take, take-take, take_all}, Str.{encodes-chars, IsUtf8-from_is_utf8}}
use lib.Utf8.{encodes}
use Rattle.{std.{proofs.{lemmas.Option.slice_get-get_or, Math.Seq.{take-add, take-append-add}}, specs.Str.{chars, is_utf8}}, legacy_text.specs.EncodingForm.{Utf8, unit_count}}
use Rattle.legacy_text.specs.{ShortScalars.{ReadsScalar, WritesScalars}, UnitCodes.{WritesCodes, IsNoSurrogate}}
use Rattle.legacy_text.{specs.NextScalars.StandsAt, proofs.{CodeUnits.total_unit_count-append, Texts.{utf8_next, utf8_stands, by_first}}}

-- ---- several scalars

-- bytes for scalars, and then bytes for the next ones
codes_append : (gives : ℕ → ℕ → Type 0) (scalars old mid new : List ℕ) (n m : ℕ) → n ≤ length scalars
    → WritesCodes gives scalars n old mid → WritesCodes gives (drop n scalars) m mid new → WritesCodes gives scalars (n + m) old new
codes_append gives scalars old mid new n m few a b =
    grind (arith, common_steps, append_assoc, length-append, get_or_append_left, get_or-append-add, get_or-drop)

-- the code units of a block after others
pub block_after : {gives : ℕ → ℕ → Type 0} {units front old new : List ℕ} {copied r : ℕ} (block marks : List ℕ)
    → copied + 16 ≤ length units → r ≤ 16 → length block ≡ 16
    → ((k : ℕ) → k < 16 → get_or marks k 0 < 128 → IsNoSurrogate (get_or (take (length units - copied) (drop copied units)) k 0)
    × gives (get_or (take (length units - copied) (drop copied units)) k 0) (get_or block k 0))
    → IsAscii (take r marks) → new ≡ old ++ take r block
    → ((k : ℕ) → k < copied → IsNoSurrogate (get_or units k 0)) → WritesCodes gives units copied front old
    → ((k : ℕ) → k < copied + r → IsNoSurrogate (get_or units k 0)) × WritesCodes gives units (copied + r) front new
block_after {gives} {units} {copied} {r} block marks within few long codes ascii stored bmp writes =
    grind (arith, nat_tests, append_assoc, length-append, length-take-le, get_or_append_left, get_or-append-add, get_or-take, writes, past)
  where
    past : (k : ℕ) → k < copied + r → copied ≤ k → IsNoSurrogate (get_or units k 0) × gives (get_or units k 0) (get_or block (k - copied) 0)
    past k h l = grind (arith, nat_tests, codes (k - copied), ascii (k - copied), get_or-take, take_all, length-drop, get_or-drop)

-- the bytes of the first of several code units
pub codes_before : {gives : ℕ → ℕ → Type 0} {units front : List ℕ} (out : List ℕ) (at m n : ℕ) → m ≤ n → length front ≡ at
    → WritesCodes gives units n front (take (at + n) out) → WritesCodes gives units m front (take (at + m) out)
codes_before {gives} {units} {front} out at m n le long writes = record {
  bytes = take m writes.bytes;
  new_is = grind (arith, writes.new_is, take-take (at + m) (at + n) out, take-append-add front writes.bytes m);
  count = grind (arith, length-take-le, writes.count);
  each = λ k h. grind (arith, writes.each k, get_or-take m writes.bytes k 0);
}

-- one scalar
pub scalars_one : {gives : ℕ → ℕ → Type 0} {text : List ℕ} {place scalar past : ℕ} (byte : ℕ) {old new : List ℕ} → ReadsScalar text place scalar past
    → gives scalar byte → new ≡ old ++ byte ∷ [] → WritesScalars gives text place 1 past old new
scalars_one byte r g e = grind (arith, common_steps, append-nil)

-- scalars, and then the next ones
pub scalars_append : {gives : ℕ → ℕ → Type 0} {text : List ℕ} {start n place m past : ℕ} {old mid new : List ℕ} →
    WritesScalars gives text start n place old mid → WritesScalars gives text place m past mid new → WritesScalars gives text start (n + m) past old new
scalars_append a b = grind (arith, nat_tests, length-drop, drop-drop, take-add, total_unit_count-append, codes_append)

-- ---- one scalar

module _ (text : List ℕ) (place : ℕ) (inside : place < length text) (u : is_utf8 (drop place text) ≡ true) where
  -- a text that is not at its end has a scalar
  some : 0 < length (chars (drop place text))
  some = has (chars (drop place text)) (sym (encodes-chars (drop place text) (IsUtf8-from_is_utf8 (drop place text) u)))
    where
      has : (l : List ℕ) → drop place text ≡ encodes l → 0 < length l
      has [] e = absurd (omega (arith, ap length e, length-drop place text))
      has (x ∷ l) e = omega arith

  pub stands : StandsAt text place (get_or (chars (drop place text)) 0 0)
  stands = utf8_stands text place _ u (sym (slice_get-get_or (chars (drop place text)) 0 0 some))

  pub reads_here : ReadsScalar text place (get_or (chars (drop place text)) 0 0) (place + unit_count Utf8 (get_or (chars (drop place text)) 0 0))
  reads_here = utf8_next text place (omega arith) u some

  -- ASCII is its own scalar
  pub reads_ascii : get_or text place 0 < 128 → ReadsScalar text place (get_or text place 0) (place + 1)
  reads_ascii h = grind (arith, by_first, get_or-drop, stands, reads_here)

  -- two bytes contain the eleven bits of a scalar
  pub reads_pair : 128 ≤ get_or text place 0 → get_or text place 0 < 224
      → (0x3080 ≤ get_or text place 0 * 64 + get_or text (place + 1) 0) × ReadsScalar text place (get_or text place 0 * 64 + get_or text (place + 1) 0 - 0x3080)
      (place + 2)
  reads_pair h short = grind (arith, by_first, get_or-drop, stands, reads_here)
