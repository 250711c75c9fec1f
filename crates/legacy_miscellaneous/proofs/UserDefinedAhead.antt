-- What the x-user-defined decoder reads ahead.
use Rattle.std.proofs.Common.{◌≡◌, true, ℕ, zero, suc, ◌+◌, ◌-◌, ◌*◌, ◌/◌, ◌%◌, ◌<◌, ◌≤◌, ◌^◌, ◌==◌, List, [], ◌++◌, bit_and, bit_xor, refl, arith}
use Rattle.std.proofs.{Common.{All, IsAscii, drop, get_or, length, min, take}, lemmas.Bool.{agree_below_at, eqb-true, Decides.nat_tests}}
use Rattle.std.proofs.lemmas.List.{take_rest, Elements.{All-nil, All-from_get_or}, take_all, take_more, get_or-drop, length-drop}
use Rattle.std.specs.Char.{IsScalar}
use Rattle.legacy_tables.specs.Unicode.{IsByte}
use Rattle.legacy_base.specs.{States.new_state, Grammar.user_defined}
use Rattle.legacy_text.specs.EncodingForm.{EncodingForm, Utf8, Utf16, all_code_units, bmp_need, code_units, total_unit_count}
use Rattle.legacy_text.{specs.declared.destination.Destination.Ghosts, proofs.CodeUnits.length-code_units-bmp}
use Rattle.legacy_decoder_engine.specs.{declared.moves.Fed.TheVariants.One, ReadAhead.{Yields, IsSingle, HasAscii, Writes, ReadsAhead}, Moves.Feeds}
use Rattle.legacy_decoder_engine.proofs.YieldedForms.{ascii_is, single_yields, has_ascii}
use Rattle.legacy_decoder_engine.proofs.JoinedReads.{reads_more, reads_written, reads_ascii, reads_front as reads-front}
use Rattle.legacy_decoder_engine.proofs.WrittenReads.{all_short, yields_none, yields_more, short, writes_one}
use Rattle.legacy_miscellaneous.{specs.UserDefinedMachine.unit_of_byte, proofs.UserDefinedShown.user_defined_shown}
use Rattle.legacy_decoder_engine.proofs.Feeding as moves

-- each byte yields its scalar
pub is_single : (b c : ℕ) → b < 2 ^ 8 → IsScalar c → c ≡ unit_of_byte b → IsSingle user_defined b c
is_single b c byte scalar e = (grind arith, single_yields user_defined_shown b c byte scalar refl (rw e (grind arith)))

-- the move of a byte
pub feeds : (b c : ℕ) → b < 2 ^ 8 → IsScalar c → c ≡ unit_of_byte b → Feeds (new_state user_defined) b (new_state user_defined) (One c)
feeds b c byte scalar e = moves.feeds user_defined_shown [] refl (All-nil IsByte) b byte refl (One c) [] (grind arith)

-- the unit of a byte by its bits
pub bits_are : (b : ℕ) → b < 256 → bit_and ((bit_xor b 128 + 65408) % 65536) 63487 ≡ unit_of_byte b
bits_are b h = eqb-true _ _ (agree_below_at (λ b. bit_and ((bit_xor b 128 + 65408) % 65536) 63487 == unit_of_byte b) (λ _. true) 256 b refl h)

-- each unit is a scalar
pub unit_scalar : (b : ℕ) → b < 256 → IsScalar (unit_of_byte b)
unit_scalar b h = grind (arith, nat_tests)

unit_below : (b : ℕ) → b < 256 → unit_of_byte b < 0x1_0000
unit_below b h = grind (arith, nat_tests)

-- ---- eight bytes at once

-- the first bytes yield the first units
pub units_yield : (source units : List ℕ) (r : ℕ) → ((k : ℕ) → get_or source k 0 < 2 ^ 8) → r ≤ length source → r ≤ length units →
    ((k : ℕ) → k < r → get_or units k 0 ≡ unit_of_byte (get_or source k 0)) → Yields user_defined (take r source) (take r units)
units_yield source units zero bytes within room are = yields_none user_defined
units_yield source units (suc r) bytes within room are =
    let is = are r (omega arith) in
    let more : suc r ≡ r + 1 = omega arith in
    rw (more, take_more units r 0 (omega arith), take_more source r 0 (omega arith))
    (yields_more _ _ _ _ _ (units_yield source units r bytes (omega arith) (omega arith) (λ k h. are k (omega arith)))
    (is_single _ _ (bytes r) (rw is (unit_scalar _ (bytes r))) is).1)

-- each byte of the rest of a source is a byte
pub rest_bytes : (source : List ℕ) (at : ℕ) → ((k : ℕ) → get_or source k 0 < 2 ^ 8) → (k : ℕ) → get_or (take (length source - at) (drop at source)) k 0 < 2 ^ 8
rest_bytes source at bytes k = grind (arith, take_rest, get_or-drop)

-- the units of eight bytes are scalars
pub units_scalar : (source units : List ℕ) → ((k : ℕ) → get_or source k 0 < 2 ^ 8) → length units ≡ 8 →
    ((k : ℕ) → k < 8 → get_or units k 0 ≡ unit_of_byte (get_or source k 0)) → All IsScalar units
units_scalar source units bytes count are =
    All-from_get_or IsScalar units 0 (λ k h. rw (are k (omega (arith, h, count))) (unit_scalar (get_or source k 0) (bytes k)))

-- eight bytes more are read
pub eight_read : {D : Type 0} (T : Ghosts D) (source units : List ℕ) (at free : ℕ) {x y z : D} → ((k : ℕ) → get_or source k 0 < 2 ^ 8) →
    8 ≤ length source - at → length units ≡ 8 → ((k : ℕ) → k < 8 → get_or units k 0 ≡ unit_of_byte (get_or (take (length source - at) (drop at source)) k 0)) →
    ReadsAhead T (new_state user_defined) source at x y → free ≡ T.room y → 35 ≤ free → T.contents z ≡ T.contents y ++ all_code_units T.form units →
    T.room z + total_unit_count T.form units ≡ T.room y → T.loan z ≡ T.loan y → ReadsAhead T (new_state user_defined) source (at + 8) x z
eight_read T source units at free bytes there count are before is enough contents room loan =
    let low = rest_bytes source at bytes in
    let rest : List ℕ = take (length source - at) (drop at source) in
    let long : 8 ≤ length rest = rw (take_rest source at, length-drop at source) there in
    let few = all_short T.form units (λ k h. rw (are k (omega (arith, h, count))) (unit_below (get_or rest k 0) (low k))) in
    let all : take 8 units ≡ units = take_all 8 units (omega (arith, count)) in
    let yields = units_yield rest units 8 low long (omega (arith, count)) are in
    reads_more before (reads_written long (record { scalars = units; yields = rw all at yields; written = contents; room = room; loan = loan })
    (omega (arith, few, count, room, is, enough)) (omega (arith, is, enough)))

-- ---- bytes one by one

-- At most `most` bytes are to be read. The first ones are written, each as at most the code units of a scalar up to U+FFFF.
pub record BytesWritten {D : Type 0} (T : Ghosts D) (source : List ℕ) (most at : ℕ) (old new : D) : Type 0 where
  pub within : at ≤ most
  pub room : T.room old ≤ T.room new + at * bmp_need T.form
  pub writes : Writes T user_defined (take at source) old new

room_left : (form : EncodingForm) (at most old new : ℕ) → at < most → most ≤ (old - 3) / bmp_need form → old ≤ new + at * bmp_need form
    → bmp_need form ≤ new
room_left Utf8 at most old new below few left = omega arith
room_left Utf16 at most old new below few left = omega arith

room_after : (form : EncodingForm) (at old mid new n : ℕ) → old ≤ mid + at * bmp_need form → new + n ≡ mid → n ≤ bmp_need form
    → old ≤ new + (at + 1) * bmp_need form
room_after Utf8 at old mid new n left room short = omega arith
room_after Utf16 at old mid new n left room short = omega arith

room_read : (form : EncodingForm) (at most old new : ℕ) → at ≤ most → most ≤ (old - 3) / bmp_need form → old ≤ new + at * bmp_need form → 0 < at
    → (3 ≤ new) × (4 ≤ old)
room_read Utf8 at most old new within few left some = omega arith
room_read Utf16 at most old new within few left some = omega arith

module _ {D : Type 0} (T : Ghosts D) (source : List ℕ) where
  pub few_bytes : {x : D} {free left narrow most : ℕ} → free ≡ T.room x → left ≡ free - 3 → narrow ≡ bmp_need T.form
      → most ≡ min (length source) (left / narrow) → (most ≤ (T.room x - 3) / bmp_need T.form) × (most ≤ length source)
  few_bytes is-free is-left is-narrow is = rw (← is-free, ← is-left, ← is-narrow) (omega (arith, is))

  module _ {x : D} {most : ℕ} (few : most ≤ (T.room x - 3) / bmp_need T.form) where
    module _ {at : ℕ} {y : D} (before : BytesWritten T source most at x y) (below : at < most) {c : ℕ} where
      pub byte_fits : c < 65536 → length (code_units T.form c) ≤ T.room y
      byte_fits small = omega (arith, length-code_units-bmp T.form c small, room_left T.form at most (T.room x) (T.room y) below few before.room)

    pub byte_written : most ≤ length source → {at : ℕ} {y : D} → BytesWritten T source most at x y → at < most → {c : ℕ}
        → IsSingle user_defined (get_or source at 0) c → {z : D} → T.contents z ≡ T.contents y ++ code_units T.form c
        → T.room z + length (code_units T.form c) ≡ T.room y → T.loan z ≡ T.loan y → BytesWritten T source most (at + 1) x z
    byte_written there {at} {y} before below {c} single {z} contents room loan = record {
      within = omega (arith, below);
      room = room_after T.form at (T.room x) (T.room y) (T.room z) (length (code_units T.form c)) before.room room (length-code_units-bmp T.form c single.0);
      writes = writes_one T source at c (omega (arith, below, there)) before.writes single.1 contents room loan;
    }

    pub bytes_read : most ≤ length source → {at : ℕ} {y : D} → BytesWritten T source most at x y → ReadsAhead T (new_state user_defined) source at x y
    bytes_read there {at} {y} before =
        let left = room_read T.form at most (T.room x) (T.room y) before.within few before.room in
        reads-front (omega (arith, before.within, there)) before.writes (λ h. (left h).0) (λ h. (left h).1)

-- ---- ASCII, and a byte after it

module _ {D : Type 0} (T : Ghosts D) (source : List ℕ) (r : ℕ) {old mid : D} where
  pub reads_front : r ≤ 64 → 64 ≤ length source → IsAscii (take r source) → 67 ≤ T.room old → T.contents mid ≡ T.contents old ++ take r source →
      T.room mid + r ≡ T.room old → T.loan mid ≡ T.loan old → ReadsAhead T (new_state user_defined) source r old mid
  reads_front few long ascii enough contents room loan =
      let law : HasAscii user_defined = has_ascii user_defined_shown (λ b. refl) (λ b h. let a = ascii_is b h in rw a refl) in
      reads_ascii law (omega arith) ascii contents room loan (λ h. omega (arith, room))

  pub reads_byte : {new : D} (c : ℕ) → ReadsAhead T (new_state user_defined) source r old mid → r < length source → 7 ≤ T.room mid →
      IsSingle user_defined (get_or source r 0) c → T.contents new ≡ T.contents mid ++ code_units T.form c →
      T.room new + length (code_units T.form c) ≡ T.room mid → T.loan new ≡ T.loan mid → ReadsAhead T (new_state user_defined) source (r + 1) old new
  reads_byte c before within enough single contents room loan = grind (arith, writes_one, reads_written, short)
