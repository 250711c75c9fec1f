-- In every codec, encoded text is well formed. It decodes to the same text if no scalar was unmappable or a fold.
use Rattle.std.proofs.{lemmas.Bool.Decides.nat_tests, Common.{arith, ◌≡◌, ℕ, List, [], ◌∷◌, map, filter, append-nil, true, false, is_some, refl, sym, ap, ap₂}}
use Rattle.std.proofs.{Common.◌∙◌, lemmas.Bool.or_parts}
use Rattle.std.specs.List.{list_any}
use Rattle.legacy_base.specs.{declared.results.DecodeEvent.TheVariants.Scalar, declared.results.EncodeEvent.TheVariants.Byte}
use Rattle.legacy_base.specs.{SingleByte.{single_byte_code}, UserDefined.{user_defined_code}}
use Rattle.legacy_base.specs.{Big5.big5_code, EucKr.{euc_kr_code}, ShiftJis.{shift_jis_code}}
use Rattle.legacy_base.specs.{EucJp.{euc_jp_code}, Gb18030.{gb18030_code, gbk_code}}
use Rattle.legacy_base.specs.declared.modes.{EncoderMode.TheVariants.Ascii as in_ascii, DecoderMode.TheVariants.Ascii}
use Rattle.legacy_base.specs.{Grammar.events_of, Encoders.{Codec, single_byte, user_defined, big5, euc_kr, shift_jis, euc_jp, gb18030, gbk, iso_2022_jp}}
use Rattle.legacy_base.specs.{Encoders.{new_encoder, code, encoded}, RoundTrips.{grammar_of, is_fold, is_private_use_fold, IsEncodedAs, RoundTrips}}
use Rattle.legacy_base.specs.RoundTrips.{ReencodesToTheSame, EscapesAreInPlace, read_as, read_back, bytes_of, written}
use Rattle.legacy_base.specs.RoundTrips.{has_lost_row, IsSound, EncodesWellFormed, EscapesStayApart}
use Rattle.legacy_tables.specs.{Indexes.FlatIndexes, TableChecks.AreAccepted}
use Rattle.legacy_tables.proofs.Accepted.{parts, length-euc_kr, length-jis0208, length-gb18030}
use Rattle.legacy_base.proofs.{Trips.{bytes_of-bytes, plain-read, plain-coded, none_lost}, TwoByteTrips.{single_byte-decodes, user_defined-decodes}}
use Rattle.legacy_base.proofs.{TwoByteTrips.{big5-decodes, euc_kr-decodes, shift_jis-decodes, euc_jp-decodes}, Gb18030Trip.{gb18030-decodes, gbk-decodes}}
use Rattle.legacy_base.proofs.{Gb18030Trip.no_private_use_fold, Iso2022JpFronts.step_end, Iso2022JpTrip.{text_bytes, text_read, text_apart}}
use Rattle.legacy_base.proofs.AcceptedTrips.{private_use-empty, are_good_rows}

-- the encoding of any text is well formed
abbrev ReadsItsTexts : Codec → Type 0
ReadsItsTexts codec = (text : List ℕ) → IsSound codec text → events_of (grammar_of codec) (written codec text) ≡ map Scalar (read_back codec text)

single_byte-read : (table : List ℕ) → ReadsItsTexts (single_byte table)
unfolding events_of
single_byte-read table text _ = plain-read _ _ _ (λ c. false) (λ c b _ h. single_byte-decodes table c b h) text (none_lost text)

user_defined-read : ReadsItsTexts user_defined
unfolding events_of
user_defined-read text _ = plain-read _ _ _ (λ c. false) (λ c b _ h. user_defined-decodes c b h) text (none_lost text)

module _ (flat : FlatIndexes) (accepted : AreAccepted flat) where
  big5-read : ReadsItsTexts (big5 flat.big5)
  unfolding events_of
  big5-read text _ = plain-read _ _ _ (λ c. false) (λ c b _ h. big5-decodes flat.big5 c b (parts flat accepted).big5.0 h) text (none_lost text)

  euc_kr-read : ReadsItsTexts (euc_kr flat.euc_kr)
  unfolding events_of
  euc_kr-read text _ = plain-read _ _ _ (λ c. false) (λ c b _ h. euc_kr-decodes flat.euc_kr c b (length-euc_kr flat accepted) h) text (none_lost text)

  shift_jis-read : ReadsItsTexts (shift_jis flat.jis0208)
  unfolding events_of
  shift_jis-read text _ =
      plain-read _ _ _ (λ c. false) (λ c b _ h. shift_jis-decodes flat.jis0208 c b (length-jis0208 flat accepted) (private_use-empty flat accepted) h) text
      (none_lost text)

  euc_jp-read : (jis0212 : List ℕ) → ReadsItsTexts (euc_jp flat.jis0208 jis0212)
  unfolding events_of
  euc_jp-read jis0212 text _ = plain-read _ _ _ (λ c. false) (λ c b _ h. euc_jp-decodes flat.jis0208 jis0212 c b h) text (none_lost text)

  gb18030-read : ReadsItsTexts (gb18030 flat.gb18030 flat.ranges flat.gb18030_pua)
  unfolding events_of
  gb18030-read text sound =
      plain-read _ _ _ _ (gb18030-decodes flat.gb18030 flat.ranges flat.gb18030_pua (length-gb18030 flat accepted) (are_good_rows flat accepted)) text sound

  gbk-read : ReadsItsTexts (gbk flat.gb18030 flat.ranges flat.gb18030_pua)
  unfolding events_of
  gbk-read text sound =
      plain-read _ _ _ _ (gbk-decodes flat.gb18030 flat.ranges flat.gb18030_pua (length-gb18030 flat accepted) (are_good_rows flat accepted)) text sound

iso_2022_jp-read : (jis0208 katakana_index : List ℕ) → ReadsItsTexts (iso_2022_jp jis0208 katakana_index)
unfolding events_of
iso_2022_jp-read jis0208 katakana_index text sound =
    let bytes = text_bytes jis0208 katakana_index in_ascii text in
    rw (append-nil bytes, step_end jis0208 Ascii, append-nil (map Scalar (read_back (iso_2022_jp jis0208 katakana_index) text)))
    at (text_read jis0208 katakana_index in_ascii text [] refl sound)

-- ---- all codecs

pub encodes_well_formed : EncodesWellFormed
encodes_well_formed =
    grind (arith, nat_tests, single_byte-read, user_defined-read, big5-read, euc_kr-read, shift_jis-read, euc_jp-read, gb18030-read, gbk-read, iso_2022_jp-read)

-- ---- texts without unmappable scalars and folds

-- if all events of a text are bytes, each of its scalars has a code
coded_all : (codec : Codec) (text bytes : List ℕ) → encoded (new_encoder codec) text true ≡ map Byte bytes
    → filter (λ c. is_some (code (new_encoder codec) c)) text ≡ text
coded_all (single_byte table) text bytes h = plain-coded (single_byte_code table) text bytes h
coded_all user_defined text bytes h = plain-coded user_defined_code text bytes h
coded_all (big5 index) text bytes h = plain-coded (big5_code index) text bytes h
coded_all (euc_kr index) text bytes h = plain-coded (euc_kr_code index) text bytes h
coded_all (shift_jis jis0208) text bytes h = plain-coded (shift_jis_code jis0208) text bytes h
coded_all (euc_jp jis0208 jis0212) text bytes h = plain-coded (euc_jp_code jis0208) text bytes h
coded_all (gb18030 index ranges pua) text bytes h = plain-coded (gb18030_code index ranges pua) text bytes h
coded_all (gbk index ranges pua) text bytes h = plain-coded (gbk_code index pua) text bytes h
coded_all (iso_2022_jp jis0208 katakana_index) text bytes h = (text_apart jis0208 katakana_index in_ascii text bytes h).coded_all

-- a scalar that is no fold decodes to itself
stands : (codec : Codec) (c : ℕ) → is_fold codec c ≡ false → read_as codec c ≡ c
stands codec c h = grind arith

all_stand : (codec : Codec) (text : List ℕ) → list_any (is_fold codec) text ≡ false → map (read_as codec) text ≡ text
all_stand codec [] none = refl
all_stand codec (c ∷ text) none =
    let folds = or_parts (is_fold codec c) (list_any (is_fold codec) text) none in
    ap₂ ◌∷◌ (stands codec c folds.0) (all_stand codec text folds.1)

-- such a text decodes to itself
reads_itself : (codec : Codec) (text bytes : List ℕ) → IsEncodedAs codec text bytes → read_back codec text ≡ text
reads_itself codec text bytes t = ap (map (read_as codec)) (coded_all codec text bytes t.whole) ∙ all_stand codec text t.unfolded

-- no scalar has a row whose bytes have no scalar
none_has_lost_row : (index : List ℕ) (pua : List (ℕ × ℕ × ℕ)) (text : List ℕ) → list_any (is_private_use_fold index pua) text ≡ false →
    list_any (has_lost_row index pua) text ≡ false
none_has_lost_row index pua [] none = refl
none_has_lost_row index pua (c ∷ text) none =
    let folds = or_parts (is_private_use_fold index pua c) (list_any (is_private_use_fold index pua) text) none in
    rw ((no_private_use_fold index pua c folds.0).1) (none_has_lost_row index pua text folds.1)

written_is : (codec : Codec) (text bytes : List ℕ) → encoded (new_encoder codec) text true ≡ map Byte bytes → written codec text ≡ bytes
written_is codec text bytes h = ap bytes_of h ∙ bytes_of-bytes bytes

pub escapes_stay_apart : EscapesStayApart
escapes_stay_apart jis0208 katakana_index text bytes h = (text_apart jis0208 katakana_index in_ascii text bytes h).apart

sound : (codec : Codec) (text bytes : List ℕ) → IsEncodedAs codec text bytes → IsSound codec text
sound (gb18030 index ranges pua) text bytes t = none_has_lost_row index pua text t.unfolded
sound (gbk index ranges pua) text bytes t = none_has_lost_row index pua text t.unfolded
sound (iso_2022_jp jis0208 katakana_index) text bytes t =
    rw (written_is (iso_2022_jp jis0208 katakana_index) text bytes t.whole) (escapes_stay_apart jis0208 katakana_index text bytes t.whole)
sound _ text bytes t = tt

pub round_trips : RoundTrips
round_trips codec accepted text bytes t =
    ap (events_of (grammar_of codec)) (sym (written_is codec text bytes t.whole))
    ∙ encodes_well_formed codec accepted text (sound codec text bytes t)
    ∙ ap (map Scalar) (reads_itself codec text bytes t)

pub same_scalars : (xs ys : List ℕ) → map Scalar xs ≡ map Scalar ys → xs ≡ ys
same_scalars [] [] e = refl
same_scalars (x ∷ xs) (y ∷ ys) e = grind (arith, same_scalars xs ys)
same_scalars _ _ e = cc

pub reencodes_to_the_same : ReencodesToTheSame
reencodes_to_the_same = grind (arith, nat_tests, same_scalars, round_trips)

pub escapes_are_in_place : EscapesAreInPlace
unfolding events_of
escapes_are_in_place jis0208 katakana_index text bytes t =
    let codec = iso_2022_jp jis0208 katakana_index in
    let apart = escapes_stay_apart jis0208 katakana_index text bytes t.whole in
    let is = written_is codec text bytes t.whole in
    (λ more plain. rw (is, reads_itself codec text bytes t) at (text_read jis0208 katakana_index in_ascii text more plain (rw is apart)), apart)
