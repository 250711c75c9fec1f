-- Text encoded with references decodes to itself with references.
--
-- A text with the characters of a reference in place of each unmappable scalar is encoded as the same bytes, and nothing
-- in it is unmappable. So the law of well-formed bytes holds of it.
use Rattle.std.proofs.{lemmas.Bool.Decides.nat_tests, Common.{◌≡◌, ◌∙◌, ℕ, zero, suc, ◌%◌, ◌/◌, List, [], ◌∷◌, ◌++◌, map, filter, flat_map, All, Bool}}
use Rattle.std.proofs.Common.{true, false, cond, ◌==◌, Option, Some, None, is_some, refl, sym, ap, ap₂, arith, decimal}
use Rattle.std.proofs.{lemmas.Bool.{or_parts, cond_both}, lemmas.Nat.mod_below, lemmas.List.map-append, lemmas.List.Folds.list_any_none}
use Rattle.std.proofs.lemmas.List.Elements.{All-nil, All-cons, All-head, All-tail, All-append, filter-append}
use Rattle.std.specs.Fmt.{digits, digits_onto, digit_glyph}
use Rattle.std.specs.{List.list_any, Int.is_in_range, Char.is_ascii}
use Rattle.legacy_tables.specs.AcceptedTables.{AcceptedIndexes}
use Rattle.legacy_base.specs.{declared.results.DecodeEvent.TheVariants.Scalar, declared.results.EncodeEvent.EncodeEvent}
use Rattle.legacy_base.specs.{declared.results.EncodeEvent.TheVariants.{Byte, Unmappable}, EncodeEvents.{plain_events}}
use Rattle.legacy_base.specs.declared.modes.EncoderMode.{EncoderMode, TheVariants.Ascii}
use Rattle.legacy_base.specs.{SingleByte.single_byte_code, UserDefined.user_defined_code, Big5.big5_code, EucKr.euc_kr_code, ShiftJis.shift_jis_code}
use Rattle.legacy_base.specs.{EucJp.euc_jp_code, Gb18030.{gb18030_code, gbk_code}}
use Rattle.legacy_base.specs.Iso2022Jp.{roman_or_ascii, escape_between, iso_2022_jp_code, is_whole_escape}
use Rattle.legacy_base.specs.Encoders.{Codec, single_byte, user_defined, big5, euc_kr, shift_jis, euc_jp, gb18030, gbk, iso_2022_jp}
use Rattle.legacy_base.specs.{Encoders.{new_encoder, code, encoded}, Grammar.events_of}
use Rattle.legacy_base.specs.RoundTrips.{grammar_of, HasAcceptedLists, IsSound, read_as, read_back, has_lost_row, bytes_of, written, KeepsCodes, HasSameCode}
use Rattle.legacy_base.proofs.{Trips.bytes_of-bytes, RoundTrips.{encodes_well_formed, escapes_stay_apart}}
use Rattle.legacy_base.proofs.{AcceptedTrips.are_good_rows, Reencoding.reencodes_any_text}
use Rattle.legacy_base.proofs.Iso2022JpEncoding.{mode_for, text_events, text_events-scalar, text_events-here, text_events-end, mode_for-by, code_by}
use Rattle.legacy_base.proofs.Iso2022JpTrip.{none_keeps, ascii_stands, text_read}
use Rattle.legacy_base.proofs.Gb18030Trip.{AreGoodRows}
use Rattle.legacy_tables.specs.Indexes.{gb18030_pua_of}
use Rattle.legacy_codecs.specs.{References.{reference, referenced_bytes}, Runs.placed, ReferenceRoundTrips.{reported_scalar}}
use Rattle.legacy_codecs.specs.ReferenceRoundTrips.{read_with_references, written_with_references, HasNoLostRow, ReferencesRoundTrip}
use Rattle.legacy_codecs.specs.ReferenceRoundTrips.{ReferencesKeepEscapesApart, ReencodesReferences, RunsReadReferences}
use Rattle.legacy_codecs.proofs.{ReferenceTexts.{referenced-append, referenced-of_bytes}, RunEvents.{placed-scalars, finished_gives}}
use Rattle.legacy_codecs.proofs.EncodeRunEvents.{finished_encodes}

-- ---- the characters of references

-- the characters from `#` to `;`, among which are those of each reference
abbrev IsMark : ℕ → Type 0
IsMark a = is_in_range 0x23 0x3B a ≡ true

glyph_is_mark : (n : ℕ) → IsMark (digit_glyph false (n % 10))
glyph_is_mark n = let small = mod_below n 10 (omega arith) in grind (arith, nat_tests)

digits_are_marks : (k n : ℕ) (text : List ℕ) → All IsMark text → All IsMark (digits_onto k 10 false n text)
digits_are_marks zero n text h = h
digits_are_marks (suc k) n text h =
    let more = All-cons IsMark (digit_glyph false (n % 10)) text (glyph_is_mark n) h in
    cond_both (n / 10 == 0) _ _ (All IsMark) (λ e. more) (λ e. digits_are_marks k (n / 10) (digit_glyph false (n % 10) ∷ text) more)

decimal_is_marks : (n : ℕ) → All IsMark (decimal n)
unfolding digits
decimal_is_marks n = digits_are_marks 64 n [] (All-nil IsMark)

reference_is_marks : (n : ℕ) → All IsMark (reference n)
reference_is_marks n =
    let front = All-cons IsMark 38 (35 ∷ []) refl (All-cons IsMark 35 [] refl (All-nil IsMark)) in
    let back = All-cons IsMark 59 [] refl (All-nil IsMark) in
    All-append IsMark (38 ∷ 35 ∷ []) (decimal n ++ 59 ∷ []) front (All-append IsMark (decimal n) (59 ∷ []) (decimal_is_marks n) back)

-- ---- a text in which references are spelled out

-- what is written for c: c itself, or the characters of its reference
abbrev spelled_by : (ℕ → Option (List ℕ)) → (ℕ → ℕ) → ℕ → List ℕ
spelled_by code report c = cond (is_some (code c)) (c ∷ []) (reference (report c))

abbrev spelled : Codec → List ℕ → List ℕ
spelled codec text = flat_map (spelled_by (code (new_encoder codec)) (reported_scalar codec)) text

-- ---- codecs without modes

-- each of the characters is written as itself
abbrev WritesMarks : (ℕ → Option (List ℕ)) → Type 0
WritesMarks code = (a : ℕ) → IsMark a → code a ≡ Some (a ∷ [])

module _ (code : ℕ → Option (List ℕ)) (own : WritesMarks code) where
  abbrev spelled_text : List ℕ → List ℕ
  spelled_text text = flat_map (spelled_by code (λ c. c)) text

  plain-marks : (marks more : List ℕ) → All IsMark marks → plain_events code (marks ++ more) ≡ map Byte marks ++ plain_events code more
  unfolding plain_events
  plain-marks [] more h = refl
  plain-marks (a ∷ marks) more h =
      rw (own a (All-head IsMark a marks h), plain-marks marks more (All-tail IsMark a marks h)) refl

  plain-code : (c : ℕ) (o : Option (List ℕ)) → code c ≡ o → (text : List ℕ)
      → plain_events code (spelled_text text) ≡ map Byte (referenced_bytes (plain_events code text))
      → plain_events code (spelled_text (c ∷ text)) ≡ map Byte (referenced_bytes (plain_events code (c ∷ text)))
  unfolding plain_events
  plain-code c None e text later =
      let after = referenced_bytes (plain_events code text) in
      rw (e, plain-marks (reference c) (spelled_text text) (reference_is_marks c), later, map-append Byte (reference c) after) refl
  plain-code c (Some bytes) e text later =
      let after = plain_events code text in
      rw (e, e, later, referenced-append (map Byte bytes) after, referenced-of_bytes bytes, map-append Byte bytes (referenced_bytes after)) refl

  plain-spelled : (text : List ℕ) → plain_events code (spelled_text text) ≡ map Byte (referenced_bytes (plain_events code text))
  unfolding plain_events
  plain-spelled [] = refl
  plain-spelled (c ∷ text) = plain-code c (code c) refl text (plain-spelled text)

-- ---- ISO-2022-JP

module _ (jis0208 katakana_index : List ℕ) where
  abbrev jp_code : ℕ → Option (List ℕ)
  jp_code = iso_2022_jp_code jis0208 katakana_index

  abbrev mode_of : EncoderMode → ℕ → EncoderMode
  mode_of = mode_for jis0208 katakana_index

  abbrev sent : EncoderMode → List ℕ → List EncodeEvent
  sent mode text = text_events jis0208 katakana_index mode text true

  abbrev jp_spelled : List ℕ → List ℕ
  jp_spelled text = spelled (iso_2022_jp jis0208 katakana_index) text

  abbrev report : ℕ → ℕ
  report = reported_scalar (iso_2022_jp jis0208 katakana_index)

  mark_mode : (mode : EncoderMode) (a : ℕ) → IsMark a → mode_of mode a ≡ roman_or_ascii mode
  mark_mode mode a h = grind (arith, nat_tests, mode_for-by, code_by)

  mark_code : WritesMarks jp_code
  mark_code a h = grind (arith, nat_tests, code_by)

  -- in ASCII or Roman mode the characters are written without an escape
  marks_here : (mode : EncoderMode) → roman_or_ascii mode ≡ mode → (marks more : List ℕ) → All IsMark marks →
      sent mode (marks ++ more) ≡ map Byte marks ++ sent mode more
  marks_here mode settled [] more h = refl
  marks_here mode settled (a ∷ marks) more h =
      let first = All-head IsMark a marks h in
      text_events-here jis0208 katakana_index mode a (mark_mode mode a first ∙ settled) (marks ++ more) true
      ∙ rw (mark_code a first, marks_here mode settled marks more (All-tail IsMark a marks h)) refl

  -- in any mode the first one is written after the escape to ASCII or Roman mode
  marks_first : (mode : EncoderMode) (a : ℕ) (marks more : List ℕ) → All IsMark (a ∷ marks) →
      sent mode (a ∷ marks ++ more) ≡ map Byte (escape_between mode (roman_or_ascii mode)) ++ (map Byte (a ∷ marks) ++ sent (roman_or_ascii mode) more)
  marks_first mode a marks more h =
      let first = All-head IsMark a marks h in
      let settled : roman_or_ascii (roman_or_ascii mode) ≡ roman_or_ascii mode = grind arith in
      text_events-scalar jis0208 katakana_index mode a (marks ++ more) true
      ∙ rw (mark_mode mode a first, mark_code a first, marks_here (roman_or_ascii mode) settled marks more (All-tail IsMark a marks h)) refl

  -- the bytes of an escape and the bytes after it
  escaped : (escape own : List ℕ) (events : List EncodeEvent) → map Byte escape ++ (map Byte own ++ map Byte (referenced_bytes events))
      ≡ map Byte (referenced_bytes (map Byte escape ++ (map Byte own ++ events)))
  escaped escape own events = grind (arith, referenced-append, referenced-of_bytes, map-append)

  escaped_reference : (escape : List ℕ) (c : ℕ) (events : List EncodeEvent) → map Byte escape ++ (map Byte (reference c) ++ map Byte (referenced_bytes events))
      ≡ map Byte (referenced_bytes (map Byte escape ++ (Unmappable c ∷ events)))
  escaped_reference escape c events = grind (arith, referenced-append, referenced-of_bytes, map-append)

  jp-code : (mode : EncoderMode) (c : ℕ) (o : Option (List ℕ)) → jp_code c ≡ o → (text : List ℕ)
      → ((new : EncoderMode) → sent new (jp_spelled text) ≡ map Byte (referenced_bytes (sent new text)))
      → sent mode (jp_spelled (c ∷ text)) ≡ map Byte (referenced_bytes (sent mode (c ∷ text)))
  jp-code mode c None e text later =
      let new = roman_or_ascii mode in
      let marks = 35 ∷ decimal (report c) ++ 59 ∷ [] in
      let split = text_events-scalar jis0208 katakana_index mode c text true in
      rw (e, split, e, none_keeps jis0208 katakana_index mode c e)
      (marks_first mode 38 marks (jp_spelled text) (reference_is_marks (report c))
      ∙ rw (later new) (escaped_reference (escape_between mode new) (report c) (sent new text)))
  jp-code mode c (Some own) e text later =
      let new = mode_of mode c in
      rw (e, text_events-scalar jis0208 katakana_index mode c (jp_spelled text) true, text_events-scalar jis0208 katakana_index mode c text true, e, later new)
      (escaped (escape_between mode new) own (sent new text))

  jp-spelled : (mode : EncoderMode) (text : List ℕ) → sent mode (jp_spelled text) ≡ map Byte (referenced_bytes (sent mode text))
  jp-spelled mode [] =
      text_events-end jis0208 katakana_index mode
      ∙ rw (text_events-end jis0208 katakana_index mode, referenced-of_bytes (escape_between mode Ascii)) refl
  jp-spelled mode (c ∷ text) = jp-code mode c (jp_code c) refl text (λ new. jp-spelled new text)

-- ---- the characters in each codec

mark_ascii : (a : ℕ) → IsMark a → is_ascii a ≡ true
mark_ascii a h = grind (arith, nat_tests)

marks_written : (codec : Codec) → WritesMarks (code (new_encoder codec))
unfolding single_byte_code user_defined_code big5_code euc_kr_code shift_jis_code euc_jp_code gb18030_code gbk_code
marks_written (single_byte table) a h = rw (mark_ascii a h) refl
marks_written user_defined a h = rw (mark_ascii a h) refl
marks_written (big5 index) a h = rw (mark_ascii a h) refl
marks_written (euc_kr index) a h = rw (mark_ascii a h) refl
marks_written (shift_jis jis0208) a h = rw (mark_ascii a h) refl
marks_written (euc_jp jis0208 jis0212) a h = rw (mark_ascii a h) refl
marks_written (gb18030 index ranges pua) a h = rw (mark_ascii a h) refl
marks_written (gbk index ranges pua) a h = rw (mark_ascii a h) refl
marks_written (iso_2022_jp jis0208 katakana_index) a h = mark_code jis0208 katakana_index a h

-- none of them has a private-use row
mark_by_row : (pua : List (ℕ × ℕ × ℕ)) → AreGoodRows pua → (a : ℕ) → IsMark a → (o : Option (ℕ × ℕ)) → gb18030_pua_of pua a ≡ o
    → gb18030_pua_of pua a ≡ None
mark_by_row pua rows a h None e = e
mark_by_row pua rows a h (Some row) e = let good = (rows.each a row.0 row.1 e).0 in absurd (grind (arith, nat_tests))

mark_has_no_row : (pua : List (ℕ × ℕ × ℕ)) → AreGoodRows pua → (a : ℕ) → IsMark a → gb18030_pua_of pua a ≡ None
mark_has_no_row pua rows a h = mark_by_row pua rows a h (gb18030_pua_of pua a) refl

good_rows : (indexes : AcceptedIndexes) (pua : List (ℕ × ℕ × ℕ)) → pua ≡ indexes.flat.gb18030_pua → AreGoodRows pua
good_rows indexes pua e = rw e (are_good_rows indexes.flat indexes.accepted)

-- each is read as itself
marks_read : (codec : Codec) → HasAcceptedLists codec → (a : ℕ) → IsMark a → read_as codec a ≡ a
marks_read (shift_jis jis0208) accepted a h = grind (arith, nat_tests)
marks_read (euc_jp jis0208 jis0212) accepted a h = grind (arith, nat_tests)
marks_read (gb18030 index ranges pua) accepted a h = rw (mark_has_no_row pua (good_rows accepted.0 pua accepted.3) a h) refl
marks_read (gbk index ranges pua) accepted a h = rw (mark_has_no_row pua (good_rows accepted.0 pua accepted.3) a h) refl
marks_read (iso_2022_jp jis0208 katakana_index) accepted a h = ascii_stands jis0208 katakana_index a (mark_ascii a h)
marks_read _ accepted a h = refl

-- ---- what is read for the text with references

module _ (code : ℕ → Option (List ℕ)) (report read : ℕ → ℕ) (own : WritesMarks code) (itself : (a : ℕ) → IsMark a → read a ≡ a) where
  -- what is read for a text with these scalars
  abbrev back : List ℕ → List ℕ
  back text = map read (filter (λ c. is_some (code c)) text)

  abbrev read_by : ℕ → List ℕ
  read_by c = cond (is_some (code c)) (read c ∷ []) (reference (report c))

  marks_back : (marks : List ℕ) → All IsMark marks → back marks ≡ marks
  marks_back [] h = refl
  marks_back (a ∷ marks) h =
      let first = All-head IsMark a marks h in
      rw (own a first, itself a first, marks_back marks (All-tail IsMark a marks h)) refl

  back-append : (xs ys : List ℕ) → back (xs ++ ys) ≡ back xs ++ back ys
  back-append xs ys = ap (map read) (filter-append (λ c. is_some (code c)) xs ys) ∙ map-append read _ _

  scalar_back : (c : ℕ) (o : Option (List ℕ)) → code c ≡ o → back (spelled_by code report c) ≡ read_by c
  scalar_back c None e = rw e (marks_back (reference (report c)) (reference_is_marks (report c)))
  scalar_back c (Some bytes) e = rw (e, e) refl

  text_back : (text : List ℕ) → back (flat_map (spelled_by code report) text) ≡ flat_map read_by text
  text_back [] = refl
  text_back (c ∷ text) =
      back-append (spelled_by code report c) (flat_map (spelled_by code report) text)
      ∙ ap₂ ◌++◌ (scalar_back c (code c) refl) (text_back text)

-- ---- a property of the scalars of a text and of the characters

module _ (code : ℕ → Option (List ℕ)) (report : ℕ → ℕ) (P : ℕ → Type 0) (marks_have : (a : ℕ) → IsMark a → P a) where
  all_marks : (marks : List ℕ) → All IsMark marks → All P marks
  all_marks [] h = All-nil P
  all_marks (a ∷ marks) h = All-cons P a marks (marks_have a (All-head IsMark a marks h)) (all_marks marks (All-tail IsMark a marks h))

  all_scalar : (c : ℕ) → P c → All P (spelled_by code report c)
  all_scalar c h =
      cond_both (is_some (code c)) _ _ (All P) (λ e. All-cons P c [] h (All-nil P))
      (λ e. all_marks (reference (report c)) (reference_is_marks (report c)))

  all_text : (text : List ℕ) → All P text → All P (flat_map (spelled_by code report) text)
  all_text [] h = h
  all_text (c ∷ text) h =
      All-append P (spelled_by code report c) (flat_map (spelled_by code report) text) (all_scalar c (All-head P c text h))
      (all_text text (All-tail P c text h))

each_passes : (lost : ℕ → Bool) (text : List ℕ) → list_any lost text ≡ false → All (λ c. lost c ≡ false) text
each_passes lost [] h = All-nil (λ c. lost c ≡ false)
each_passes lost (c ∷ text) h =
    let parts = or_parts (lost c) (list_any lost text) h in All-cons (λ c. lost c ≡ false) c text parts.0 (each_passes lost text parts.1)

text_kept : (codec : Codec) (lost : ℕ → Bool) → ((a : ℕ) → IsMark a → lost a ≡ false) → (text : List ℕ) → list_any lost text ≡ false
    → list_any lost (spelled codec text) ≡ false
text_kept codec lost kept text h =
    list_any_none lost (spelled codec text) (all_text _ _ (λ c. lost c ≡ false) kept text (each_passes lost text h))

mark_not_lost : (index : List ℕ) (pua : List (ℕ × ℕ × ℕ)) → AreGoodRows pua → (a : ℕ) → IsMark a → has_lost_row index pua a ≡ false
mark_not_lost index pua rows a h = rw (mark_has_no_row pua rows a h) refl

-- ---- all codecs

-- the text with references is encoded as the bytes with references
all_spelled : (codec : Codec) (text : List ℕ) → encoded (new_encoder codec) (spelled codec text) true ≡ map Byte (written_with_references codec text)
all_spelled (single_byte table) text = plain-spelled (single_byte_code table) (marks_written (single_byte table)) text
all_spelled user_defined text = plain-spelled user_defined_code (marks_written user_defined) text
all_spelled (big5 index) text = plain-spelled (big5_code index) (marks_written (big5 index)) text
all_spelled (euc_kr index) text = plain-spelled (euc_kr_code index) (marks_written (euc_kr index)) text
all_spelled (shift_jis jis0208) text = plain-spelled (shift_jis_code jis0208) (marks_written (shift_jis jis0208)) text
all_spelled (euc_jp jis0208 jis0212) text = plain-spelled (euc_jp_code jis0208) (marks_written (euc_jp jis0208 jis0212)) text
all_spelled (gb18030 index ranges pua) text = plain-spelled (gb18030_code index ranges pua) (marks_written (gb18030 index ranges pua)) text
all_spelled (gbk index ranges pua) text = plain-spelled (gbk_code index pua) (marks_written (gbk index ranges pua)) text
all_spelled (iso_2022_jp jis0208 katakana_index) text = jp-spelled jis0208 katakana_index Ascii text

-- so the same bytes are written for both
spelled_bytes : (codec : Codec) (text : List ℕ) → written codec (spelled codec text) ≡ written_with_references codec text
spelled_bytes codec text = ap bytes_of (all_spelled codec text) ∙ bytes_of-bytes (written_with_references codec text)

-- the text with references meets the condition of well-formed bytes
spelled_is_sound : (codec : Codec) → HasAcceptedLists codec → (text : List ℕ) → HasNoLostRow codec text → IsSound codec (spelled codec text)
spelled_is_sound (gb18030 index ranges pua) accepted text sound =
    text_kept (gb18030 index ranges pua) (has_lost_row index pua) (mark_not_lost index pua (good_rows accepted.0 pua accepted.3)) text sound
spelled_is_sound (gbk index ranges pua) accepted text sound =
    text_kept (gbk index ranges pua) (has_lost_row index pua) (mark_not_lost index pua (good_rows accepted.0 pua accepted.3)) text sound
spelled_is_sound (iso_2022_jp jis0208 katakana_index) accepted text sound =
    let codec = iso_2022_jp jis0208 katakana_index in
    rw (spelled_bytes codec text)
    (escapes_stay_apart jis0208 katakana_index (spelled codec text) (written_with_references codec text) (all_spelled codec text))
spelled_is_sound _ accepted text sound = tt

-- what the text with references decodes to
spelled_back : (codec : Codec) → HasAcceptedLists codec → (text : List ℕ) → read_back codec (spelled codec text) ≡ read_with_references codec text
spelled_back codec accepted text =
    text_back (code (new_encoder codec)) (reported_scalar codec) (read_as codec) (marks_written codec) (marks_read codec accepted) text

pub references_round_trip : ReferencesRoundTrip
references_round_trip codec accepted text sound =
    ap (events_of (grammar_of codec)) (sym (spelled_bytes codec text))
    ∙ encodes_well_formed codec accepted (spelled codec text) (spelled_is_sound codec accepted text sound)
    ∙ ap (map Scalar) (spelled_back codec accepted text)

-- ---- escapes in ISO-2022-JP

pub references_keep_escapes_apart : ReferencesKeepEscapesApart
unfolding events_of
references_keep_escapes_apart jis0208 katakana_index text =
    let codec = iso_2022_jp jis0208 katakana_index in
    let itself = λ (a : ℕ) (h : IsMark a). ascii_stands jis0208 katakana_index a (mark_ascii a h) in
    let back = text_back (code (new_encoder codec)) (reported_scalar codec) (read_as codec) (marks_written codec) itself text in
    let apart =
    escapes_stay_apart jis0208 katakana_index (spelled codec text) (written_with_references codec text) (all_spelled codec text) in
    let read = λ (more : List ℕ) (plain : is_whole_escape more ≡ false).
    text_read jis0208 katakana_index Ascii (spelled codec text) more plain (rw (spelled_bytes codec text) apart) in
    (λ more plain. rw (spelled_bytes codec text, back) at (read more plain), apart)

-- ---- the text that is read, encoded again

marks_keep_code : (codec : Codec) → HasAcceptedLists codec → (a : ℕ) → IsMark a → HasSameCode codec a
marks_keep_code codec accepted a h bytes e = ap (code (new_encoder codec)) (marks_read codec accepted a h) ∙ e

spelled_keeps_codes : (codec : Codec) → HasAcceptedLists codec → (text : List ℕ) → KeepsCodes codec text → KeepsCodes codec (spelled codec text)
spelled_keeps_codes (gb18030 index ranges pua) accepted text keeps =
    let codec = gb18030 index ranges pua in all_text _ _ (HasSameCode codec) (marks_keep_code codec accepted) text keeps
spelled_keeps_codes (gbk index ranges pua) accepted text keeps =
    let codec = gbk index ranges pua in all_text _ _ (HasSameCode codec) (marks_keep_code codec accepted) text keeps
spelled_keeps_codes (iso_2022_jp jis0208 katakana_index) accepted text keeps =
    let codec = iso_2022_jp jis0208 katakana_index in all_text _ _ (HasSameCode codec) (marks_keep_code codec accepted) text keeps
spelled_keeps_codes _ accepted text keeps = tt

pub reencodes_references : ReencodesReferences
reencodes_references codec accepted text sound keeps =
    let same = spelled_bytes codec text in
    reencodes_any_text codec accepted (spelled codec text) (spelled_is_sound codec accepted text sound) (spelled_keeps_codes codec accepted text keeps)
    (read_with_references codec text) (ap (events_of (grammar_of codec)) same ∙ references_round_trip codec accepted text sound)
    ∙ ap (map Byte) same

-- ---- runs

pub runs_read_references : RunsReadReferences
runs_read_references codec accepted text sound given run answered f =
    let same = ap (λ l. events_of (grammar_of codec) (referenced_bytes l)) (finished_encodes run) in
    let read = sym same ∙ references_round_trip codec accepted text sound in
    sym (finished_gives f) ∙ ap (placed 0) read ∙ placed-scalars 0 (read_with_references codec text)
