use Rattle.std.proofs.Common.{◌≡◌, ◌∙◌, ℕ, Bool, ◌+◌, ◌-◌, ◌/◌, ◌%◌, ◌≤◌, ◌<◌, true, false, List, [], ◌∷◌, ◌++◌, length, Some, None, inl, inr, refl, sym, ap}
use Rattle.std.proofs.{Common.{subst, arith, rules}, lemmas.List.{get_or-replicate, get_or-append_right, length-replicate, length-append}}
use Rattle.std.proofs.{Math.ListN.get_or-append, lemmas.Bool.{and_right, cases_lt}, lemmas.Bool.Decides.nat_tests}
use Rattle.std.specs.{Prelude.{replicate, slice_index, option_map}, Int.is_in_range}
use borrow.Author.Tests.{lt-ltb, le-ltb}
use Rattle.legacy_base.specs.{declared.results.EncodeEvent.EncodeEvent, declared.results.EncodeEvent.TheVariants.{Byte, Unmappable}, Encoders.new_encoder}
use Rattle.legacy_base.specs.{Encoders.encoded, Gb18030.gb18030_code, EncodeEvents.{code_events, plain_events}, ShiftJis.shift_jis_code, EucJp.euc_jp_bytes}
use Rattle.legacy_base.specs.{EucJp.euc_jp_code, Iso2022Jp.{iso_2022_jp_code, settled_mode, mode_after_text, iso_2022_jp_text_events}}
use Rattle.legacy_tables.specs.{Indexes.{entry_scalar, range}, TableChecks.range_order_fault, Pointers.{every_pointer, is_jis0208_pointer, first_pointer}}
use Rattle.legacy_tables.specs.Pointers.{is_shift_jis_pointer, last_pointer, last_below, index_pointer_of, euc_jp_pointer_of, range_pointer_of}
use Rattle.legacy_tables.proofs.{Pointers.{first-alike, first-is, first-none}, RangePointers.pointer-past}
use Rattle.legacy_standard.specs.{Processing.process, SingleByte.single_byte_handler, UserDefined.user_defined_handler, Replacement.replacement_handler}
use Rattle.legacy_standard.specs.{EucKr.euc_kr_handler, Big5.big5_handler, ShiftJis.shift_jis_handler, EucJp.euc_jp_handler, Gb18030.gb18030_handler}
use Rattle.legacy_standard.specs.{Utf16.utf16_handler, Iso2022Jp.iso_2022_jp_handler, TextQueue.by_scalar}
use Rattle.legacy_standard.specs.{RangesPointer.ranges_pointer, SingleByteEncoder.single_byte_encodes, UserDefinedEncoder.user_defined_encodes}
use Rattle.legacy_standard.specs.{EucKrEncoder.euc_kr_encodes, Big5Encoder.big5_encodes, ShiftJisEncoder.{shift_jis_encodes, shift_jis_pointer_bytes}}
use Rattle.legacy_standard.specs.{EucJpEncoder.{euc_jp_at, euc_jp_encodes}, Gb18030Encoder.gb18030_encodes, Iso2022JpEncoder.iso_2022_jp_encodes}
use Rattle.legacy_standard.specs.{EncoderLaw.IsFold, WorkedTexts.{entry_at, Computes, Differs}}
use Rattle.legacy_base.specs.Encoders as codecs
use Rattle.legacy_standard.specs.TextQueue as text_queue
use Rattle.legacy_standard.proofs.worked_rows.Goals as goal

-- the only range ends before U+9A7C
past_ranges : encoded (new_encoder (codecs.gb18030 [] ((0, 0x80) ∷ []) [])) (0x9A7C ∷ []) true ≡ Unmappable 0x9A7C ∷ []
unfolding plain_events gb18030_code first_pointer range_order_fault
past_ranges =
    let none : None ≡ range_pointer_of ((0, 0x80) ∷ []) 0x9A7C =
    pointer-past ((0, 0x80) ∷ []) refl 0x9A7C (omega arith) (λ e. absurd (omega arith)) 0 (omega arith) (omega arith) (λ k l h. absurd (omega arith)) 39420 refl
    (omega arith) in
    rw (← none) refl

-- an index with one entry
slice-entry : (n c : ℕ) → slice_index (entry_at n c) n ≡ c
slice-entry n c = grind (arith, get_or-append_right (replicate n 0) (c ∷ []) n n 0 (length-replicate n 0) (omega arith))

slice-before : (n c k : ℕ) → k < n → slice_index (entry_at n c) k ≡ 0
slice-before n c k h = get_or-append (replicate n 0) (c ∷ []) 0 k (rw (length-replicate {A = ℕ} n 0) h) ∙ get_or-replicate n k 0 0 h

entry_pointer : (n : ℕ) → index_pointer_of (entry_at n 0x4E00) 0x4E00 ≡ Some n
entry_pointer n =
    first-is every_pointer (entry_at n 0x4E00) 0x4E00 (λ e. absurd (omega arith)) n (omega (arith, length-append {A = ℕ}, length-replicate {A = ℕ})) refl
    (slice-entry n 0x4E00)
    (λ k h. let empty = slice-before n 0x4E00 k h in rw empty refl)

entry_unused : (may : ℕ → Bool) (n : ℕ) → may n ≡ false → first_pointer may (entry_at n 0x4E00) 0x4E00 ≡ None
entry_unused may n unused = first-none may (entry_at n 0x4E00) 0x4E00 (λ k h. elim (cases_lt k n) [
  | inl l ↦ let empty = slice-before n 0x4E00 k l in rw empty (and_right (may k) false refl)
  | inr r ↦ let is : k ≡ n = omega (arith, length-append {A = ℕ}, length-replicate {A = ℕ}) in rw (is, unused) refl
])

unused_row : (n : ℕ) → is_shift_jis_pointer n ≡ false →
    Computes (by_scalar (shift_jis_encodes (entry_at n 0x4E00))) tt ((0x4E00 ∷ [], Unmappable 0x4E00 ∷ []) ∷ [])
unfolding text_queue.process shift_jis_encodes
unused_row n unused =
    let handler = by_scalar (shift_jis_encodes (entry_at n 0x4E00)) in
    let handled : List EncodeEvent = Unmappable 0x4E00 ∷ [] in
    subst (λ o. text_queue.act_on (text_queue.process handler 19) (text_queue.bytes_or_error shift_jis_pointer_bytes o 0x4E00) tt [] ∷ []
    ≡ Some handled ∷ []) (sym (entry_unused is_shift_jis_pointer n unused)) refl

past_rows : (n : ℕ) → 8836 ≤ n → Differs (by_scalar (euc_jp_encodes (entry_at n 0x4E00))) tt (codecs.euc_jp (entry_at n 0x4E00) []) 0x4E00
    (Byte (n / 94 + 0xA1) ∷ Byte (n % 94 + 0xA1) ∷ []) (Unmappable 0x4E00 ∷ [])
unfolding text_queue.process euc_jp_encodes plain_events euc_jp_code
past_rows n past =
    let index = entry_at n 0x4E00 in
    let handled : List EncodeEvent = Byte (n / 94 + 0xA1) ∷ Byte (n % 94 + 0xA1) ∷ [] in (
      subst (λ o. text_queue.act_on (text_queue.process (by_scalar (euc_jp_encodes index)) 19) (euc_jp_at o 0x4E00) tt [] ≡ Some handled)
          (sym (entry_pointer n)) refl,
      subst (λ o. code_events 0x4E00 (option_map euc_jp_bytes o) ++ [] ≡ Unmappable 0x4E00 ∷ [])
          (sym (entry_unused is_jis0208_pointer n (le-ltb n 8836 past))) refl,
    )

-- all pointers are in the 94 rows of 94 if the index has at most that many entries
in_rows : (index : List ℕ) (c : ℕ) → length index ≤ 8836 → index_pointer_of index c ≡ euc_jp_pointer_of index c
in_rows index c few = first-alike _ _ index c (λ k h. sym (lt-ltb k 8836 (omega arith)))

fold : (c : ℕ) → is_in_range 0xFF61 0xFF9F c ≡ true → IsFold (0xFF0D ∷ 0x3002 ∷ []) (replicate 63 0x3002) c
unfolding first_pointer
fold c h =
    let few : c - 0xFF61 < 63 = grind (arith, nat_tests) in
    record {
      entry = 0x3002;
      entry_is = ap entry_scalar (get_or-replicate 63 (c - 0xFF61) 0x3002 0 few);
      looked_up = refl;
      has_pointer = refl;
    }

pub returns-clause-bytes : goal.returns-clause-bytes
unfolding process single_byte_handler user_defined_handler replacement_handler euc_kr_handler big5_handler shift_jis_handler euc_jp_handler gb18030_handler
    utf16_handler iso_2022_jp_handler range
returns-clause-bytes c = search rules

pub returns-clause-texts : goal.returns-clause-texts
unfolding text_queue.process single_byte_encodes user_defined_encodes euc_kr_encodes big5_encodes shift_jis_encodes euc_jp_encodes gb18030_encodes
    iso_2022_jp_encodes ranges_pointer first_pointer last_pointer last_below
returns-clause-texts c = record {
  single_byte = refl;
  user_defined = refl;
  euc_kr = refl;
  big5 = refl;
  big5_pointers = refl;
  shift_jis = refl;
  shift_jis_pointers = unused_row 8272 refl;
  euc_jp = refl;
  gb18030 = refl;
  gbk = refl;
  iso_2022_jp = refl;
}

pub returns-clause-without_pointers : goal.returns-clause-without_pointers
unfolding text_queue.process shift_jis_encodes euc_jp_encodes gb18030_encodes ranges_pointer iso_2022_jp_encodes first_pointer plain_events
    shift_jis_code euc_jp_code iso_2022_jp_code settled_mode mode_after_text iso_2022_jp_text_events
returns-clause-without_pointers c = record {
  shift_jis = (refl, refl);
  euc_jp = (refl, refl);
  iso_2022_jp = (refl, refl);
  katakana = (refl, refl);
  overline = (refl, refl);
  minus = (refl, refl);
  half_width = (refl, refl);
  row = past_rows 8836 (omega arith);
  gb18030 = (refl, past_ranges);
}

pub returns-clause-with_pointers : goal.returns-clause-with_pointers
unfolding first_pointer
returns-clause-with_pointers c = record {
  shift_jis = refl;
  euc_jp = record { first = λ c. in_rows (entry_at 60 0xFF0D) c (omega arith); hyphen = refl };
  iso_2022_jp = (record { first = λ c. in_rows (0xFF0D ∷ 0x3002 ∷ []) c (omega arith); hyphen = refl }, λ c h. fold c h);
}
