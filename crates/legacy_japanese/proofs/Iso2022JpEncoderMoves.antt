-- The length formulas of the ISO-2022-JP encoder are enough for its scalars and escapes. Its moves, by its tables and by a list of pairs.
use Rattle.std.proofs.Common.{◌≡◌, ◌≢◌, ℕ, ◌+◌, ◌<◌, ◌≤◌, ◌/◌, ◌%◌, List, arith, Bool, true, false, [], ◌∷◌, ◌++◌, length, refl, IsTrue, Option, Some, None, map, ◌⊎◌}
use Rattle.std.proofs.Common.{option_map}
use Rattle.std.{specs.List.list_any, proofs.{Common.{IsAscii, get_or, take}, lemmas.List.{length-take, get_or-take, Folds.list_any_at}}}
use Rattle.{std.proofs.lemmas.Bool.Decides.nat_tests, legacy_tables.specs.Indexes.FlatIndexes, legacy_text.specs.UnitCodes.IsNoSurrogate}
use Rattle.{legacy_text.specs.EncodingForm.{EncodingForm, Utf8}, legacy_base.specs.Beginnings.BeginsWith}
use Rattle.legacy_base.specs.{EncoderProfile.{EncoderProfile, differs}, Encoders.{encoder_profile, iso_2022_jp, is_pending}}
use Rattle.legacy_base.specs.Iso2022Jp.{iso_2022_jp_encoder, iso_2022_jp_code, iso_2022_jp_pair, iso_2022_jp_pointer_of, roman_or_ascii, is_two_byte_scalar, is_roman_scalar, is_mode_control, mode_after_text, escape_to}
use Rattle.legacy_base.proofs.Iso2022JpEncoding.{code-short, text_events, text_events-here, text_events-escape, text_events-end, text_events-open, mode_for}
use Rattle.legacy_base.proofs.{Iso2022JpEncoding.{mode_by, mode_for-by, mode_for-twice, code_by}, SameUnits.some_unit}
use Rattle.legacy_encoder_engine.specs.{Moves.{is_escape, move_bytes, move_report, Moves, Finishes}, ProfileSuffices.{Serves, mode_need}}
use Rattle.legacy_encoder_engine.specs.{UnfinishedCall.{PutsCode, ReadsByte}, WrittenUnits.{ReadsUnit, two_bytes}}
use Rattle.legacy_encoder_engine.specs.declared.moves.EncoderMove.{EncoderMove, TheVariants.{One, Two, Unmappable}}
use Rattle.legacy_encoder_engine.proofs.PlainServes.{two_units, differs-same, here_moves}
use Rattle.{legacy_base.specs.declared.modes.EncoderMode.{EncoderMode, TheVariants.{Ascii, TwoByte}}, legacy_japanese.specs.Iso2022JpEncoder.{state_in, Asks, HasNoPair}}
use Rattle.legacy_base.specs.declared.results.EncodeEvent.TheVariants as events

module _ (jis0208 katakana_index : List ℕ) where
  abbrev encoder : EncoderProfile
  encoder = iso_2022_jp_encoder jis0208 katakana_index

  -- ---- on numbers: a scalar of u code units, t more after it, and `own` bytes for the scalar

  -- an escape to the mode that the scalar needs, and then the scalar's bytes
  escape_by : (pair keeps romans : Bool) (mode : EncoderMode) (form : EncodingForm) (t u own : ℕ) → differs mode (mode_by pair keeps romans mode) ≡ true
      → own ≤ 2 → (pair ≡ false → own ≤ 1) → 1 ≤ u → (form ≡ Utf8 → pair ≡ true → 2 ≤ u) → (form ≡ Utf8 → romans ≡ true → 2 ≤ u)
      → (mode_need encoder form (mode_by pair keeps romans mode) t + (3 + own) ≤ mode_need encoder form mode (u + t))
      × (6 ≤ mode_need encoder form mode (u + t))
  escape_by pair keeps romans mode form t u own e o n p q r = grind arith

  -- no scalar of two-byte or Roman mode is ASCII
  past_ascii : (c : ℕ) → (is_two_byte_scalar jis0208 katakana_index c ≡ true → 128 ≤ c) × (is_roman_scalar c ≡ true → 128 ≤ c)
  past_ascii c = grind (arith, nat_tests, code_by)

  -- ---- what the encoder's loop needs to know of the codec

  pub serves : Serves (encoder_profile (iso_2022_jp jis0208 katakana_index))
  serves = record {
    nothing = text_events-open jis0208 katakana_index;
    settled = λ mode c. rw (mode_for-twice jis0208 katakana_index mode c) (differs-same (mode_for jis0208 katakana_index mode c));
    low = λ mode c form t. grind (arith, code-short, some_unit);
    enough = λ mode c form t. grind (arith, some_unit);
    escape_low = λ mode c n form t. grind (arith, mode_for-by, code-short, escape_by, some_unit, two_units, past_ascii);
    escape_enough = λ mode c n form t. grind (arith, mode_for-by, code-short, escape_by, some_unit, two_units, past_ascii);
    end = λ mode form. grind arith;
    escapes = λ mode e. grind arith;
    rises = λ form m n h. grind arith;
  }

  -- ---- the end

  -- The escape to ASCII mode comes at the end, or before a text that begins with it. The rest is encoded from ASCII mode.
  -- The bytes of a scalar do not begin with the escape byte.
  escape_first : (mode : EncoderMode) → (mode ≡ Ascii → ⊥) → (more : List ℕ) (ended : Bool)
      → ((more ≡ []) × IsTrue ended) ⊎ BeginsWith (text_events jis0208 katakana_index mode more ended) (map events.Byte (escape_to Ascii))
      → text_events jis0208 katakana_index mode more ended ≡ map events.Byte (escape_to Ascii) ++ text_events jis0208 katakana_index Ascii more ended
  unfolding iso_2022_jp_code
  escape_first mode other [] ended h = grind (arith, text_events-open, text_events-end)
  escape_first mode other (c ∷ more) ended h = grind (arith, nat_tests, text_events-here, text_events-escape)

  -- a test that the code computes
  pub ruleset asked_steps = (nat_tests, mode_for-by, code_by)

-- ---- the moves

module _ (flat : FlatIndexes) where
  pub finishes : (mode : EncoderMode) → is_pending (state_in flat mode) ≡ true → Finishes (state_in flat mode) (state_in flat Ascii)
  finishes mode h = grind (arith, escape_first)

  module _ {mode new : EncoderMode} {c : ℕ} {move : EncoderMove} where
    -- the scalar is read in the mode that it needs
    pub stays : Asks flat mode c new move → differs mode new ≡ false → Moves (state_in flat mode) c (state_in flat mode) move
    stays asks same =
        let here : mode_for flat.jis0208 flat.katakana mode c ≡ mode = grind (arith, asks.mode_is) in
        here_moves _ _ c (grind (arith, here, text_events-here, code-short, differs-same)) move asks.code_is

    pub fits : Asks flat mode c new move → differs mode new ≡ false → length (move_bytes move) ≤ 3
    fits asks same = let moves = stays asks same in omega (arith, moves.fits)

    pub puts : Asks flat mode c new move → differs mode new ≡ false → is_escape move ≡ false → move_report move ≡ []
        → {old bytes : List ℕ} {at end : ℕ} → bytes ≡ old ++ move_bytes move → end ≡ at + length (move_bytes move)
        → PutsCode (state_in flat mode) c old at bytes end
    puts asks same reads silent bytes ends = record { move = move; moves = stays asks same; reads = reads; silent = silent; bytes = bytes; ends = ends }

    -- an escape goes to another mode
    pub escapes : {own : EncoderMove} → Asks flat mode c new own → differs mode new ≡ true → is_escape move ≡ true → move_bytes move ≡ escape_to new
        → Moves (state_in flat mode) c (state_in flat new) move
    escapes asks e is bytes = grind (arith, text_events-escape, differs-same, asks.mode_is)

  -- ASCII without controls, in ASCII mode
  asks_ascii : (c : ℕ) → c < 128 → is_mode_control c ≡ false → Asks flat Ascii c Ascii (One c)
  asks_ascii c low free = record { mode_is = grind (arith, asked_steps); code_is = grind (arith, asked_steps) }

  pub own_bytes : (out bytes : List ℕ) (n m : ℕ) → take n out ≡ bytes → IsAscii bytes → list_any is_mode_control (take m out) ≡ false → n ≤ m
      → (k : ℕ) → k < length bytes → ReadsByte (state_in flat Ascii) 2 (get_or bytes k 0) (get_or bytes k 0)
  own_bytes out bytes n m same ascii none within k h =
      let free : is_mode_control (get_or bytes k 0) ≡ false = grind (arith, length-take, get_or-take, list_any_at is_mode_control (take m out) k 0) in
      record { fits = omega arith; moves = stays (asks_ascii _ (ascii k) free) refl }

  pub puts_ascii : (c : ℕ) (mode : EncoderMode) → c < 128 → is_mode_control c ≡ false → mode ≡ Ascii → (old bytes : List ℕ) (at : ℕ) → bytes ≡ old ++ c ∷ []
      → PutsCode (state_in flat mode) c old at bytes (at + 1)
  puts_ascii c mode low free here old bytes at is = rw here (puts (asks_ascii c low free) refl refl refl is refl)

  pub ruleset put_steps = (fits, puts, puts_ascii)

  -- a scalar with a lead and a trail
  pub asks_pair : (c lead trail : ℕ) (mode : EncoderMode) → iso_2022_jp_code flat.jis0208 flat.katakana c ≡ Some (lead ∷ trail ∷ [])
      → Asks flat mode c TwoByte (Two lead trail)
  unfolding mode_after_text
  asks_pair c lead trail mode e = record { mode_is = rw e refl; code_is = e }

  absent_pair : (o : Option ℕ) → ((lead trail : ℕ) → option_map iso_2022_jp_pair o ≡ Some (lead ∷ trail ∷ []) → lead + trail ≡ 0) → o ≡ None
  absent_pair None n = refl
  absent_pair (Some p) n = let few = n _ _ refl in absurd (omega (arith, few))

  -- a scalar past ASCII without a lead and a trail, other than the two of Roman mode, has no code
  no_code : (c : ℕ) → HasNoPair flat c → 0x80 ≤ c → c ≢ 0xA5 → c ≢ 0x203E → iso_2022_jp_code flat.jis0208 flat.katakana c ≡ None
  unfolding iso_2022_jp_code
  no_code c none past yen line = grind (arith, nat_tests, none, absent_pair (iso_2022_jp_pointer_of flat.jis0208 flat.katakana c))

  pub asks_unmappable : (c : ℕ) (mode settled : EncoderMode) → HasNoPair flat c → 0x80 ≤ c → c ≢ 0xA5 → c ≢ 0x203E → settled ≡ roman_or_ascii mode
      → Asks flat mode c settled (Unmappable c)
  asks_unmappable c mode settled none past yen line is =
      let no = no_code c none past yen line in
      record { mode_is = grind (arith, nat_tests, mode_for-by, no); code_is = (no, grind (arith, nat_tests)) }

  -- a pair that is in the list
  module _ (c both : ℕ) (is : IsNoSurrogate c × (iso_2022_jp_code flat.jis0208 flat.katakana c ≡ Some (two_bytes both))) where
    abbrev pair : EncoderMove
    pair = Two (both % 256) (both / 256)

    pub asks_listed : (mode : EncoderMode) → Asks flat mode c TwoByte pair
    unfolding mode_after_text
    asks_listed mode = record { mode_is = rw is.1 refl; code_is = is.1 }

    pub puts_listed : (old bytes : List ℕ) (at : ℕ) → bytes ≡ old ++ two_bytes both → PutsCode (state_in flat TwoByte) c old at bytes (at + 2)
    puts_listed old bytes at is = puts (asks_listed TwoByte) refl refl refl is refl

    pub reads_listed : ReadsUnit (state_in flat TwoByte) c both 2
    reads_listed =
        record { bmp = is.0; move = pair; moves = stays (asks_listed TwoByte) refl; reads = refl; silent = refl; bytes = refl }
