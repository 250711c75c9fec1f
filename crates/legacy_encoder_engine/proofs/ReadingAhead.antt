-- Reading ahead of the moves.
use Rattle.std.proofs.Common.{◌≡◌, ◌∙◌, ℕ, suc, ◌+◌, ◌-◌, ◌≤◌, ◌<◌, List, [], ◌∷◌, ◌++◌, length, get_or, take, drop, refl, ap, sym, subst, arith, append_assoc}
use Rattle.std.proofs.{Common.{append-nil, length-append, false, IsAscii}, lemmas.List.{get_or-take, length-take, length-take-le}}
use Rattle.std.proofs.lemmas.List.{take-append-drop, take-append-le, take-take, take_at, drop-take, drop_at}
use Rattle.legacy_text.specs.{EncodingForm.{EncodingForm, code_units, unit_count, all_code_units, total_unit_count}, NextScalars.IsFirst, UnitCodes.WritesCodes}
use Rattle.legacy_text.proofs.CodeUnits.{length-code_units-ascii, total_unit_count-append}
use Rattle.legacy_base.specs.Encoders.{EncoderState, encoder_profile, scalar_need}
use Rattle.legacy_encoder_engine.specs.{declared.moves.EncoderMove.EncoderMove, Moves.{Moves, move_bytes, move_report, is_escape}, UnfinishedCall.KeepsOn}
use Rattle.legacy_encoder_engine.specs.{UnfinishedCall.{EncodesAhead, PutsCode, ReadsByte}, ProfileSuffices.Serves}
use Rattle.legacy_encoder_engine.proofs.CallUnderWay.{underway_read, first_units}
use Rattle.legacy_encoder_engine.specs.declared.moves.EncoderMove.TheVariants as moves

pub keeps_then : {state : EncoderState} {free : ℕ} {left bytes left' bytes' left'' bytes'' : List ℕ}
    → KeepsOn state free left bytes left' bytes' → KeepsOn state free left' bytes' left'' bytes''
    → KeepsOn state free left bytes left'' bytes''
keeps_then first second = record { keeps = λ before source last u. second.keeps before source last (first.keeps before source last u) }

module _ (state : EncoderState) (free : ℕ) where
  pub keeps_none : (left bytes : List ℕ) → KeepsOn state free left bytes left bytes
  keeps_none left bytes = record { keeps = λ before source last u. u }

  module _ (serves : Serves (encoder_profile state.codec)) where
    pub keeps_move : (left bytes : List ℕ) (c : ℕ) (rest : List ℕ) (move : EncoderMove)
        → left ≡ c ∷ rest → Moves state c state move → is_escape move ≡ false → move_report move ≡ []
        → scalar_need state c ≤ free - length bytes → KeepsOn state free left bytes rest (bytes ++ move_bytes move)
    keeps_move left bytes c rest move at f plain silent room = record {
      keeps = λ before source last u. underway_read u serves at f room plain silent;
    }

    -- scalars are read with one byte each, if `room` bytes more are free
    module _ (room : ℕ) where
      bytes_on : (front bytes left old rest : List ℕ) → length bytes ≡ length front
          → ((k : ℕ) → k < length front → ReadsByte state room (get_or front k 0) (get_or bytes k 0))
          → left ≡ front ++ rest → length old + length front + room ≤ free → KeepsOn state free left old rest (old ++ bytes)
      bytes_on [] [] left old rest same codes at fits = rw (append-nil old, at) (keeps_none rest old)
      bytes_on [] (b ∷ bytes) left old rest same codes at fits = absurd (omega arith)
      bytes_on (c ∷ front) [] left old rest same codes at fits = absurd (omega arith)
      bytes_on (c ∷ front) (b ∷ bytes) left old rest same codes at fits =
          let code : ReadsByte state room c b = codes 0 (omega arith) in
          let long : length (old ++ b ∷ []) ≡ length old + 1 = length-append old (b ∷ []) in
          let first = keeps_move left old c (front ++ rest) (moves.One b) at code.moves refl refl (omega (arith, code.fits)) in
          let others = bytes_on front bytes (front ++ rest) (old ++ b ∷ []) rest (omega arith) (λ k h. codes (suc k) (omega arith)) refl (omega arith) in
          subst (λ l. KeepsOn state free left old rest l) (append_assoc old (b ∷ []) bytes) (keeps_then first others)

      pub keeps_codes : {gives : ℕ → ℕ → Type 0} → ((c byte : ℕ) → gives c byte → ReadsByte state room c byte)
          → {left : List ℕ} {n : ℕ} {old new : List ℕ} → n ≤ length left
          → length old + n + room ≤ free → WritesCodes gives left n old new → KeepsOn state free left old (drop n left) new
      keeps_codes reads {left} {n} {old} within fits w =
          let long = length-take-le n left within in
          let each : (k : ℕ) → k < length (take n left) → ReadsByte state room (get_or (take n left) k 0) (get_or w.bytes k 0) = λ k h.
          let below : k < n = omega (arith, h, long) in
          subst (λ c. ReadsByte state room c (get_or w.bytes k 0)) (sym (get_or-take n left k 0 below)) (reads _ _ (w.each k below)) in
          rw w.new_is (bytes_on (take n left) w.bytes left old (drop n left) (w.count ∙ sym long) each (sym (take-append-drop n left)) (omega (arith, long)))

-- ---- ASCII scalars

-- ASCII scalars have one code unit each
ascii_units : (form : EncodingForm) (front : List ℕ) → IsAscii front → total_unit_count form front ≡ length front
ascii_units form [] a = refl
ascii_units form (c ∷ front) a =
    omega (arith, length-append (code_units form c) (all_code_units form front), length-code_units-ascii form c (a 0), ascii_units form front (λ i. a (suc i)))

ascii_count : (form : EncodingForm) (left : List ℕ) (n : ℕ) → n ≤ length left → IsAscii (take n left) → total_unit_count form (take n left) ≡ n
ascii_count form left n within ascii = ascii_units form (take n left) ascii ∙ length-take-le n left within

-- ---- loops

pub encodes_none : {state : EncoderState} {form : EncodingForm} {free : ℕ} {left : List ℕ} {passed : ℕ} {bytes : List ℕ} {at : ℕ} → at ≤ free
    → EncodesAhead state form free left passed bytes at left passed bytes at
encodes_none within = record { keeps = keeps_none _ _ _ _; start = omega arith; end = within; units = refl }

pub encodes_then : {state : EncoderState} {form : EncodingForm} {free free' passed passed' passed'' at at' at'' : ℕ}
    {left left' left'' bytes bytes' bytes'' : List ℕ}
    → EncodesAhead state form free left passed bytes at left' passed' bytes' at'
    → EncodesAhead state form free' left' passed' bytes' at' left'' passed'' bytes'' at''
    → free' ≡ free → EncodesAhead state form free left passed bytes at left'' passed'' bytes'' at''
encodes_then first second same =
    let second' = rw same at second in
    grind (arith, keeps_then first.keeps second'.keeps, first.start, second.start, second'.end, first.units, second.units)

-- scalars with one byte each
pub encodes_codes : {state : EncoderState} (form : EncodingForm) (free room : ℕ) {gives : ℕ → ℕ → Type 0} (serves : Serves (encoder_profile state.codec))
    → ((c byte : ℕ) → gives c byte → ReadsByte state room c byte) → {left : List ℕ} (passed : ℕ) {old new left' : List ℕ} {n passed' at : ℕ}
    → n ≤ length left → left' ≡ drop n left → passed' ≡ passed + total_unit_count form (take n left)
    → WritesCodes gives left n old new → length old ≡ at → at + n + room ≤ free
    → EncodesAhead state form free left passed old at left' passed' new (at + n)
encodes_codes form free room serves reads {left} passed {n = n} within rest units writes long fits =
    record {
      keeps = rw rest (keeps_codes _ _ serves room reads within (omega arith) writes);
      start = omega arith;
      end = omega arith;
      units = rw rest (omega (arith, units, rw (take-append-drop n left) at (total_unit_count-append form (take n left) (drop n left))));
    }

-- ASCII scalars that are copied, each of which is read as itself
pub encodes_ascii : {state : EncoderState} (form : EncodingForm) (free room : ℕ) (serves : Serves (encoder_profile state.codec))
    → {left : List ℕ} (passed : ℕ) {old new left' : List ℕ} {n passed' at : ℕ} → n ≤ length left → left' ≡ drop n left
    → IsAscii (take n left) → passed' ≡ passed + n → new ≡ old ++ take n left
    → ((k : ℕ) → k < length (take n left) → ReadsByte state room (get_or (take n left) k 0) (get_or (take n left) k 0)) → length old ≡ at → at + n + room ≤ free
    → EncodesAhead state form free left passed old at left' passed' new (at + n)
encodes_ascii {state} form free room serves {left} passed {n = n} within rest ascii units written reads =
    let long = length-take-le n left within in
    let passed_is = units ∙ ap (λ k. passed + k) (sym (ascii_count form left n within ascii)) in
    encodes_codes {state = state} form free room serves (λ c byte code. code) passed within rest passed_is (record {
      bytes = take n left;
      new_is = written;
      count = long;
      each = λ k h. subst (λ c. ReadsByte state room c (get_or (take n left) k 0)) (get_or-take n left k 0 h) (reads k (omega (arith, h, long)));
    })

-- the same, copied into the part of an output before the place `limit`
module _ (start n limit : ℕ) (dst new left : List ℕ) (fits : start + n ≤ length (take limit dst)) (same : length new ≡ length (take limit dst))
    (bytes : take (start + n) new ≡ take start (take limit dst) ++ take n left) where
  pub copied_part : take (start + n) (new ++ drop limit dst) ≡ take start dst ++ take n left
  copied_part =
      let short = length-take limit dst in
      rw (take-append-le (start + n) new (drop limit dst) (omega arith), bytes, take-take start limit dst (omega arith))

  pub kept_part : take start (new ++ drop limit dst) ≡ take start dst
  kept_part = rw (← take-take start (start + n) (new ++ drop limit dst) (omega arith), copied_part)
      (take_at (take start dst) (take n left) start (length-take-le start dst (omega (arith, length-take limit dst))))

  pub written_part : take n (drop start (new ++ drop limit dst)) ≡ take n left
  written_part = rw (← drop-take start n (new ++ drop limit dst), copied_part)
      (drop_at (take start dst) (take n left) start (length-take-le start dst (omega (arith, length-take limit dst))))

-- the first scalar
pub first_some : {left rest : List ℕ} {c : ℕ} → left ≡ c ∷ rest → 0 < length left
first_some is = rw is (omega arith)

pub first_count : (form : EncodingForm) {left : List ℕ} {c n : ℕ} → IsFirst form left c n → n ≡ unit_count form (get_or left 0 0)
first_count form is = rw is.0 (sym is.1)

pub past_ascii : (form : EncodingForm) {c n : ℕ} → unit_count form c ≡ n → 2 ≤ n → 128 ≤ c
past_ascii form {c} is two = grind (arith, length-code_units-ascii form c)

-- a code that is written has a byte
pub puts_some : {state : EncoderState} {c at end : ℕ} {old new : List ℕ} → PutsCode state c old at new end → at < end
puts_some put = let reads = put.reads in let silent = put.silent in let ends = put.ends in grind arith

-- one more scalar
pub encodes_put : {state : EncoderState} (form : EncodingForm) {free passed passed' passed'' start at end c n room : ℕ}
    {left left' left'' bytes bytes' bytes'' : List ℕ}
    (serves : Serves (encoder_profile state.codec)) → scalar_need state c ≤ room
    → EncodesAhead state form free left passed bytes start left' passed' bytes' at → IsFirst form left' c n → PutsCode state c bytes' at bytes'' end
    → left'' ≡ drop 1 left' → passed'' ≡ passed' + n → length bytes' ≡ at → at + room ≤ free
    → EncodesAhead state form free left passed bytes start left'' passed'' bytes'' end
encodes_put form serves fits before is put next units long room =
    let own = put.moves.fits in
    let one = keeps_move _ _ serves _ _ _ _ put.move is.0 put.moves put.reads put.silent (omega (arith, fits)) in
    record {
      keeps = rw (put.bytes, next) (keeps_then before.keeps one);
      start = omega (arith, put.ends, before.start);
      end = omega (arith, put.ends, fits);
      units = rw next (omega (arith, first_units form _ _ is.0, is.1, before.units));
    }

-- the lemmas for the loops
pub ruleset turns = (encodes_none, encodes_then)
