-- The text that the ISO-2022-JP decoder reads ahead, and the escapes in it.
use Rattle.std.proofs.lemmas.List.{take_rest}
use Rattle.std.proofs.Common.{◌≡◌, ◌≢◌, ◌∙◌, ℕ, suc, ◌+◌, ◌-◌, ◌*◌, ◌%◌, ◌^◌, ◌<◌, ◌≤◌, Bool, false, cond, ltb, Some, List, [], ◌∷◌, ◌++◌, length, map, take}
use Rattle.std.proofs.{Common.{drop, get_or, replicate, w8, w64, IsAscii, sym, ap, arith, append-nil, length-drop}, Math.Seq.{drop-cons, take-add}}
use Rattle.std.proofs.lemmas.{Bool.{Decides.nat_tests, cases_lt, ne_eqb}, Grind.common_steps, List.Elements.{All-nil, All-cons}, Str.Ascii.IsAscii-from_all}
use Rattle.std.proofs.lemmas.{List.{length-take-le, length-map, get_or-map, take-take, drop-drop}, Nat.Bits.{bit_at-trailing_zeros, bit_at-zero}}
use Rattle.std.{proofs.lemmas.Simd.{bit_mask_l, bitmask_splat, mask_l-lt, zip2_splat}, specs.{Char.IsScalar, Int.trailing_zeros, Prelude.All}}
use Rattle.legacy_text.specs.declared.destination.Destination.{Ghosts}
use Rattle.legacy_base.specs.{declared.modes.DecoderMode.{DecoderMode, TheVariants.{Ascii, Roman, Katakana, TwoByte}}, Iso2022Jp.{iso_2022_jp_front, esc}}
use Rattle.legacy_base.specs.Fronts.{reads as front_reads}
use Rattle.legacy_base.specs.{Grammar.{iso_2022_jp, events_of}, States.DecoderState}
use Rattle.legacy_base.proofs.{Iso2022JpFronts.{step_one, step_two}, Iso2022JpParts.no_escape, Shifts.{shift-append, shift-shift, shift-scalars}}
use Rattle.legacy_tables.{specs.{AcceptedTables.AcceptedIndexes, Indexes.idx}, proofs.Accepted.length-jis0208}
use Rattle.legacy_japanese.specs.declared.iso_2022_jp.bytes.{Escape.Escape}
use Rattle.legacy_japanese.specs.Iso2022JpAhead.{IsAsciiText, begun_state, HasEscape, jis_place}
use Rattle.legacy_japanese.specs.Iso2022JpMachine.{mode_of, second_of, third_of, single}
use Rattle.legacy_japanese.proofs.{Iso2022JpNeeds.{entry_narrow, one_fits, total_need-falls, times_one, same_needs}, Iso2022JpStep.{events_in, escape_alone}}
use Rattle.legacy_decoder_engine.specs.ReadAhead.{Yields, IsPair, ReadsAhead, YieldsTo, ReadsTo}
use Rattle.legacy_decoder_engine.proofs.{WrittenReads.{yields_none, yields_more, all_code_units_ascii}, PairPlaces.idx_past}
use Rattle.legacy_decoder_engine.proofs.{JoinedReads.{reads_more, reads_then, reads_written}, AheadInCalls.reads_nothing}
use lib.Lanes.{mask_l, zip2, top}

-- ---- a byte of ASCII text

pub ascii_text_yields : (jis0208 : List ℕ) (b : ℕ) → IsAsciiText b → Yields (iso_2022_jp jis0208 Ascii) (b ∷ []) (b ∷ [])
unfolding events_of iso_2022_jp_front
ascii_text_yields jis0208 b h = grind (arith, nat_tests, step_one, ne_eqb, All-cons, All-nil, total_need-falls, times_one, one_fits)

ascii_text_bytes : (jis0208 : List ℕ) (bytes : List ℕ) → All IsAsciiText bytes → Yields (iso_2022_jp jis0208 Ascii) bytes bytes
ascii_text_bytes jis0208 [] h = yields_none (iso_2022_jp jis0208 Ascii)
ascii_text_bytes jis0208 (b ∷ bytes) h = yields_more (iso_2022_jp jis0208 Ascii) (b ∷ []) bytes (b ∷ []) bytes
    (ascii_text_yields jis0208 b (h 0 0 (omega arith))) (ascii_text_bytes jis0208 bytes (λ i y l. h (suc i) y (omega arith)))

-- ---- a byte of another mode but two-byte mode

front_is : (jis0208 : List ℕ) (mode : DecoderMode) (b c : ℕ) (rest : List ℕ) → single mode b ≡ Some c
    → iso_2022_jp_front jis0208 mode b rest ≡ front_reads 1 (c ∷ [])
unfolding iso_2022_jp_front
front_is jis0208 Ascii b c rest is = grind (arith, nat_tests)
front_is jis0208 Roman b c rest is = grind (arith, nat_tests)
front_is jis0208 Katakana b c rest is = grind (arith, nat_tests)
front_is jis0208 TwoByte b c rest is = grind arith

narrow_single : (mode : DecoderMode) (b c : ℕ) → single mode b ≡ Some c → (c < 0x1_0000) × IsScalar c
narrow_single Ascii b c is = grind (arith, nat_tests)
narrow_single Roman b c is = grind (arith, nat_tests)
narrow_single Katakana b c is = grind (arith, nat_tests)
narrow_single TwoByte b c is = grind arith

pub single_text_yields : (jis0208 : List ℕ) (mode : DecoderMode) (b c : ℕ) → b ≢ esc → single mode b ≡ Some c
    → (c < 0x1_0000) × Yields (iso_2022_jp jis0208 mode) (b ∷ []) (c ∷ [])
unfolding events_of
single_text_yields jis0208 mode b c unescaped is =
    let few = narrow_single mode b c is in
    let front = λ (rest : List ℕ). front_is jis0208 mode b c rest is in
    (few.0, grind (arith, nat_tests, few, front, step_one, ne_eqb, All-cons, All-nil, total_need-falls, times_one, one_fits))

-- ---- a pair

pair_yield : (jis0208 : List ℕ) (a b c : ℕ) → 0x21 ≤ a → a ≤ 0x7E → 0x21 ≤ b → b ≤ 0x7E → c < 0x1_0000 → IsScalar c
    → idx jis0208 ((a - 0x21) * 94 + (b - 0x21)) ≡ Some c → IsPair (iso_2022_jp jis0208 TwoByte) a b c
unfolding events_of iso_2022_jp_front
pair_yield jis0208 a b c low high low' high' narrow scalar is =
    grind (arith, nat_tests, step_two, ne_eqb, All-cons, All-nil, total_need-falls, times_one, one_fits)

-- the scalar of two bytes, by the sum of their places
pub placed_scalar : (tables : AcceptedIndexes) (a b c : ℕ) → idx tables.flat.jis0208 (jis_place 94 a + jis_place 1 b) ≡ Some c
    → IsPair (iso_2022_jp tables.flat.jis0208 TwoByte) a b c
unfolding jis_place
placed_scalar tables a b c is =
    let short = length-jis0208 tables.flat tables.accepted in
    let one : (b - 0x21) * 1 ≡ b - 0x21 = omega arith in
    let small = entry_narrow tables (jis_place 94 a + jis_place 1 b) c is in grind (arith, cases_lt, nat_tests, pair_yield, idx_past)

-- ---- ASCII text

pub ascii_text : (bytes : List ℕ) → All IsAsciiText bytes → IsAscii bytes
ascii_text bytes text = IsAscii-from_all _ (λ i d l. (text i d l).0)

-- a block of ASCII text, after the text before it
pub reads_ascii_text_block : {D : Type 0} (T : Ghosts D) (jis0208 source : List ℕ) {old mid new : D} (at count : ℕ) → 64 ≤ length source - at
    → 67 ≤ T.room mid → count ≤ 64 → All IsAsciiText (take count (take 64 (take (length source - at) (drop at source))))
    → T.contents new ≡ T.contents mid ++ take count (take (length source - at) (drop at source)) → T.room new + count ≡ T.room mid → T.loan new ≡ T.loan mid
    → ReadsAhead T (begun_state jis0208 Ascii) source at old mid → ReadsAhead T (begun_state jis0208 Ascii) source (at + count) old new
reads_ascii_text_block T jis0208 source {old} {mid} {new} at count long enough most text contents room loan front =
    let rest : List ℕ = take (length source - at) (drop at source) in
    let within : count ≤ length rest = grind (arith, take_rest, length-drop) in
    let all = rw (take-take count 64 rest most) at text in
    let same = all_code_units_ascii T.form (take count rest) (ascii_text _ all) in
    let yields = ascii_text_bytes jis0208 (take count rest) all in
    reads_more front (reads_written within
    (record { scalars = take count rest; yields = yields; written = rw same contents; room = rw (same, length-take-le count rest within) room; loan = loan })
    (omega arith) (omega arith))

-- ---- the bytes before a control

-- before the lowest bit of a mask no lane passes the test
none_before : (p : ℕ → Bool) (xs : List ℕ) (k : ℕ) → length xs ≡ 64 → k < 64 → k < trailing_zeros w64 (mask_l (map p xs)) → p (get_or xs k 0) ≡ false
none_before p xs k long within h =
    let small : mask_l (map p xs) < 2 ^ 64 = rw (length-map xs p, long) at (mask_l-lt (map p xs)) in
    grind (arith, nat_tests, bit_at-zero k, bit_at-trailing_zeros w64 (mask_l (map p xs)), bit_mask_l (map p xs) k, get_or-map)

-- the distances from 0E, which wrap
abbrev distances : List ℕ → List ℕ
distances block = zip2 (λ a b. (a + (2 ^ 8 - b)) % 2 ^ 8) block (replicate 64 14)

-- the bits of the bytes 0E to 1F
abbrev controls : List ℕ → ℕ
controls block = mask_l (map (top 7) (zip2 (λ a b. cond (ltb a b) (2 ^ 8 - 1) 0) (distances block) (replicate 64 18))) % 2 ^ 64

pub ascii_text_before : (block : List ℕ) (k : ℕ) → length block ≡ 64 → k < 64 → get_or block k 0 < 128 → k < trailing_zeros w64 (controls block)
    → IsAsciiText (get_or block k 0)
ascii_text_before block k long within low h =
    let moved : distances block ≡ map (λ b. (b + 242) % 256) block = zip2_splat (λ a b. (a + (2 ^ 8 - b)) % 2 ^ 8) block 64 14 long in
    let same = ap length moved ∙ length-map block (λ b. (b + 242) % 256) ∙ long in
    let mask = bitmask_splat w8 ltb (distances block) 64 18 same (omega arith) in
    let none = none_before (λ b. ltb b 18) (distances block) k same within (rw mask at h) in
    grind (arith, nat_tests, rw moved at none, get_or-map)

-- ---- before and after an escape

-- an escape before text of its mode, which does not begin with an escape byte
escape_yields : (jis0208 : List ℕ) (mode : DecoderMode) (e : Escape) (x : ℕ) (bytes ds : List ℕ) → x ≢ esc →
    Yields (iso_2022_jp jis0208 (mode_of e)) (x ∷ bytes) ds
    → YieldsTo (iso_2022_jp jis0208 mode) (iso_2022_jp jis0208 (mode_of e)) (esc ∷ second_of e ∷ third_of e ∷ x ∷ bytes) ds
unfolding events_of
escape_yields jis0208 mode e x bytes ds alone yields =
    grind (arith, events_in, escape_alone, no_escape, ne_eqb, shift-append, shift-scalars, shift-shift, total_need-falls)

-- the bytes of a text after three others, and those of an escape and the text after it
bytes_after_escape : (source : List ℕ) (read : ℕ) → 3 < length source → 0 < read
    → take read (drop 3 source) ≡ get_or source 3 0 ∷ take (read - 1) (drop 4 source)
bytes_after_escape source read within some = grind (arith, common_steps, drop-cons source 3 0)

escape_bytes : (e : Escape) (source : List ℕ) (read : ℕ) → HasEscape e source → 0 < read
    → take (3 + read) source ≡ esc ∷ second_of e ∷ third_of e ∷ get_or source 3 0 ∷ take (read - 1) (drop 4 source)
escape_bytes e source read has some = grind (arith, take-add, bytes_after_escape)

module _ {D : Type 0} {T : Ghosts D} where
  -- text, then an escape and text of its mode
  pub reads_on : (jis0208 : List ℕ) (first mode next : DecoderMode) (e : Escape) (source : List ℕ) {old mid new : D} (at read : ℕ) → next ≡ mode_of e
      → HasEscape e (take (length source - at) (drop at source)) → 0 < read
      → ReadsTo T (begun_state jis0208 first) (begun_state jis0208 mode) source at old mid
      → ReadsAhead T (begun_state jis0208 next) (take (length source - (at + 3)) (drop (at + 3) source)) read mid new
      → ReadsTo T (begun_state jis0208 first) (begun_state jis0208 next) source (at + (3 + read)) old new
  reads_on jis0208 first mode next e source {old} {mid} {new} at read is has some front reads =
      let S : List ℕ = take (length source - at) (drop at source) in
      let rest : take (length source - (at + 3)) (drop (at + 3) source) ≡ drop 3 S = take_rest source (at + 3) ∙ sym (drop-drop 3 at source)
      ∙ ap (drop 3) (sym (take_rest source at)) in
      let text = rw (is, rest) at reads in
      let later = rw (bytes_after_escape S read has.within some) at text.writes.yields in
      let yields : YieldsTo (iso_2022_jp jis0208 mode) (iso_2022_jp jis0208 (mode_of e)) (take (3 + read) S) text.writes.scalars =
      rw (escape_bytes e S read has some) (escape_yields jis0208 mode e _ _ _ has.alone later) in
      let both : ReadsTo T (begun_state jis0208 mode) (begun_state jis0208 (mode_of e)) S (3 + read) mid new =
      grind (arith, same_needs, length-drop, yields, text) in
      rw is (reads_then front both)

  -- text, after which nothing was read
  pub reads_end : {before after other : DecoderState} {source later : List ℕ} {old mid new : D} {at read : ℕ} → read ≡ 0 →
      ReadsTo T before after source at old mid
      → ReadsAhead T other later read mid new
      → ReadsTo T before after source at old new
  reads_end none front reads = let nothing = reads_nothing reads none in grind (arith, append-nil)
