-- The text that encoded bytes decode to is encoded as the same bytes.
use Rattle.std.proofs.Common.{◌≡◌, ◌∙◌, ℕ, List, [], ◌∷◌, ◌++◌, map, refl, sym, ap, arith, All, true, false, Option, Some}
use Rattle.std.proofs.{lemmas.Bool.Decides.nat_tests, lemmas.List.map-append, lemmas.List.Elements.{All-head, All-tail}}
use Rattle.legacy_base.specs.{declared.results.EncodeEvent.EncodeEvent, declared.results.EncodeEvent.TheVariants.Byte, EncodeEvents.{plain_events}}
use Rattle.legacy_base.specs.declared.modes.EncoderMode.{EncoderMode, TheVariants.{Ascii, Roman, TwoByte}}
use Rattle.legacy_base.specs.{ShiftJis.shift_jis_code, EucJp.euc_jp_code}
use Rattle.legacy_base.specs.Iso2022Jp.{is_pair, iso_2022_jp_code, is_whole_escape, roman_or_ascii, escape_to}
use Rattle.legacy_base.specs.{Iso2022Jp.escape_between, Encoders.{Codec, single_byte, user_defined, big5, euc_kr, shift_jis, euc_jp, gb18030, gbk, iso_2022_jp}}
use Rattle.legacy_base.specs.{Encoders.{new_encoder, encoded}, RoundTrips.{japanese_scalar, read_back, bytes_of, written}}
use Rattle.legacy_base.specs.RoundTrips.{holds_adjacent_escapes, IsSound, KeepsCodes, HasSameCode, ReencodesAnyText}
use Rattle.legacy_base.proofs.{Trips.{coded, bytes_of-nothing, bytes_of-after, bytes_of-unmappable}, Iso2022JpEncoding.{mode_by, mode_for, mode_for-by}}
use Rattle.legacy_base.proofs.{Iso2022JpEncoding.{text_events, text_events-scalar, text_events-escape, text_events-end}, Iso2022JpTrip.{own_scalar, none_keeps}}
use Rattle.legacy_base.proofs.Iso2022JpTrip.{coded_here, text_back, text_bytes, scalar_bytes, text_bytes-scalar, text_bytes-end, rest_apart, escape_apart}
use Rattle.legacy_base.proofs.RoundTrips.{same_scalars, encodes_well_formed}

-- ---- codecs without modes

plain-again : (code : ℕ → Option (List ℕ)) (read : ℕ → ℕ) (text : List ℕ) → All (λ c. (bytes : List ℕ) → code c ≡ Some bytes → code (read c) ≡ Some bytes) text
    → plain_events code (map read (coded code text)) ≡ map Byte (bytes_of (plain_events code text))
unfolding plain_events
plain-again code read [] same = rw bytes_of-nothing refl
plain-again code read (c ∷ text) same =
    let P : ℕ → Type 0 = λ c. (bytes : List ℕ) → code c ≡ Some bytes → code (read c) ≡ Some bytes in
    let here = All-head P c text same in
    let later = plain-again code read text (All-tail P c text same) in
    grind (arith, nat_tests, bytes_of-unmappable, bytes_of-after, map-append)

-- the scalar that a fold decodes to has the code of the fold
folded-same : (code : ℕ → Option (List ℕ)) → code 0x5C ≡ code 0xA5 → code 0x7E ≡ code 0x203E → code 0xFF0D ≡ code 0x2212 → (c : ℕ) →
    code (japanese_scalar c) ≡ code c
folded-same code yen overline minus c = grind (arith, nat_tests)

shift_jis-same : (jis0208 : List ℕ) (c : ℕ) → shift_jis_code jis0208 (japanese_scalar c) ≡ shift_jis_code jis0208 c
unfolding shift_jis_code
shift_jis-same jis0208 = folded-same (shift_jis_code jis0208) refl refl refl

euc_jp-same : (jis0208 : List ℕ) (c : ℕ) → euc_jp_code jis0208 (japanese_scalar c) ≡ euc_jp_code jis0208 c
unfolding euc_jp_code
euc_jp-same jis0208 = folded-same (euc_jp_code jis0208) refl refl refl

-- ---- ISO-2022-JP

module _ (jis0208 katakana_index : List ℕ) where
  abbrev code : ℕ → Option (List ℕ)
  code = iso_2022_jp_code jis0208 katakana_index

  abbrev mode_of : EncoderMode → ℕ → EncoderMode
  mode_of = mode_for jis0208 katakana_index

  -- the scalar that c decodes to, and the text that a text decodes to
  abbrev own_of : ℕ → ℕ
  own_of = own_scalar jis0208 katakana_index

  abbrev back : List ℕ → List ℕ
  back = text_back jis0208 katakana_index

  abbrev coded_of : List ℕ → List ℕ
  coded_of = coded_here jis0208 katakana_index

  -- the events and the bytes of a text from a mode
  abbrev sent : EncoderMode → List ℕ → List EncodeEvent
  sent mode text = text_events jis0208 katakana_index mode text true

  abbrev bytes_from : EncoderMode → List ℕ → List ℕ
  bytes_from = text_bytes jis0208 katakana_index

  abbrev bytes_at : EncoderMode → EncoderMode → Option (List ℕ) → List ℕ → List ℕ
  bytes_at = scalar_bytes jis0208 katakana_index

  abbrev SameHere : ℕ → Type 0
  SameHere c = HasSameCode (iso_2022_jp jis0208 katakana_index) c

  -- a scalar with a code of one byte decodes to itself
  single_stands : (c : ℕ) (own : List ℕ) → code c ≡ Some own → is_pair (Some own) ≡ false → own_of c ≡ c
  unfolding iso_2022_jp_code
  single_stands c own h single = grind arith

  -- the scalar that c decodes to is written in the same mode and with the same code as c
  same_mode : (mode : EncoderMode) (c : ℕ) (own : List ℕ) → code c ≡ Some own → code (own_of c) ≡ Some own → mode_of mode (own_of c) ≡ mode_of mode c
  same_mode mode c own e again = grind (arith, nat_tests, mode_for-by, mode_by, single_stands)

  -- a scalar that is written in ASCII mode after ASCII mode is also written in ASCII mode after two-byte mode
  back_to_ascii : (c : ℕ) (own : List ℕ) → code c ≡ Some own → code (own_of c) ≡ Some own → mode_of Ascii c ≡ Ascii →
      mode_of TwoByte (own_of c) ≡ Ascii
  back_to_ascii c own e again n =
      let stays : mode_of Ascii (own_of c) ≡ Ascii = same_mode Ascii c own e again ∙ n in grind (arith, nat_tests, mode_for-by, mode_by)

  -- The bytes of a text from two-byte mode are the escape to ASCII mode and its bytes from that mode. This holds if the
  -- latter do not begin with an escape.
  late_escape : (text : List ℕ) → All SameHere text → is_whole_escape (bytes_from Ascii text) ≡ false → sent TwoByte (back text)
      ≡ map Byte (escape_to Ascii) ++ sent Ascii (back text)
  late_escape [] same h =
      rw (text_events-end jis0208 katakana_index TwoByte, text_events-end jis0208 katakana_index Ascii) refl
  late_escape (c ∷ text) same h =
      let here = All-head SameHere c text same in
      let later = late_escape text (All-tail SameHere c text same) in
      let alone = rw (text_bytes-scalar jis0208 katakana_index Ascii c text) at h in
      let some = λ (own : List ℕ) (e : code c ≡ Some own) (n : mode_of Ascii c ≡ Ascii).
      text_events-escape jis0208 katakana_index TwoByte Ascii (own_of c) (back_to_ascii c own e (here own e) n) (λ z. cc) (back text) true in
      grind (arith, some, later, none_keeps jis0208 katakana_index Ascii c)

  -- a scalar without a code
  none-again : (mode : EncoderMode) (text : List ℕ) → All SameHere text
      → holds_adjacent_escapes (escape_between mode (roman_or_ascii mode) ++ bytes_from (roman_or_ascii mode) text) ≡ false
      → sent (roman_or_ascii mode) (back text) ≡ map Byte (bytes_from (roman_or_ascii mode) text)
      → sent mode (back text) ≡ map Byte (escape_between mode (roman_or_ascii mode) ++ bytes_from (roman_or_ascii mode) text)
  none-again Ascii text others h read = read
  none-again Roman text others h read = read
  none-again TwoByte text others h read =
      late_escape text others (escape_apart jis0208 katakana_index TwoByte Ascii (bytes_from Ascii text) (λ z. cc) h)
      ∙ ap (λ l. map Byte (escape_to Ascii) ++ l) read
      ∙ sym (map-append Byte (escape_to Ascii) (bytes_from Ascii text))

  iso_2022_jp-again : (mode : EncoderMode) (text : List ℕ) → All SameHere text → holds_adjacent_escapes (bytes_from mode text) ≡ false
      → sent mode (back text) ≡ map Byte (bytes_from mode text)
  iso_2022_jp-again mode [] same h = rw (text_bytes-end jis0208 katakana_index mode) (text_events-end jis0208 katakana_index mode)
  iso_2022_jp-again mode (c ∷ text) same h =
      let new = mode_of mode c in
      let after = bytes_from new text in
      let here = All-head SameHere c text same in
      let others = All-tail SameHere c text same in
      let later = iso_2022_jp-again new text others in
      let some : (own : List ℕ) → code c ≡ Some own → holds_adjacent_escapes (escape_between mode new ++ (own ++ after)) ≡ false →
      sent mode (own_of c ∷ back text) ≡ map Byte (escape_between mode new ++ (own ++ after)) =
      λ own e k.
      let read = later (rest_apart jis0208 katakana_index own after (rest_apart jis0208 katakana_index (escape_between mode new) (own ++ after) k)) in
      text_events-scalar jis0208 katakana_index mode (own_of c) (back text) true
      ∙ rw (same_mode mode c own e (here own e), here own e, read, map-append Byte (escape_between mode new) (own ++ after), map-append Byte own after)
      refl in
      let none = rest_apart jis0208 katakana_index (escape_between mode new) after in
      let apart = rw (text_bytes-scalar jis0208 katakana_index mode c text) at h in
      rw (text_bytes-scalar jis0208 katakana_index mode c text)
      (grind (arith, some, none, later, none-again mode text others, none_keeps jis0208 katakana_index mode c))

-- ---- all codecs

-- the text that the bytes decode to is encoded as the same bytes
again : (codec : Codec) (text : List ℕ) → IsSound codec text → KeepsCodes codec text →
    encoded (new_encoder codec) (read_back codec text) true ≡ map Byte (written codec text)
again (single_byte table) text sound keeps = plain-again _ _ text (λ k d h bytes e. e)
again user_defined text sound keeps = plain-again _ _ text (λ k d h bytes e. e)
again (big5 index) text sound keeps = plain-again _ _ text (λ k d h bytes e. e)
again (euc_kr index) text sound keeps = plain-again _ _ text (λ k d h bytes e. e)
again (shift_jis jis0208) text sound keeps = plain-again _ _ text (λ k d h bytes e. shift_jis-same jis0208 _ ∙ e)
again (euc_jp jis0208 jis0212) text sound keeps = plain-again _ _ text (λ k d h bytes e. euc_jp-same jis0208 _ ∙ e)
again (gb18030 index ranges pua) text sound keeps = plain-again _ _ text keeps
again (gbk index ranges pua) text sound keeps = plain-again _ _ text keeps
again (iso_2022_jp jis0208 katakana_index) text sound keeps = iso_2022_jp-again jis0208 katakana_index Ascii text keeps sound

pub reencodes_any_text : ReencodesAnyText
reencodes_any_text = grind (arith, nat_tests, same_scalars, encodes_well_formed, again)
