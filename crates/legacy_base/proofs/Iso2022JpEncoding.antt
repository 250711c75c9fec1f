-- The events of a text in ISO-2022-JP, scalar by scalar: the escape to the scalar's mode, its own bytes, and then the
-- rest of the text from that mode.
use Rattle.std.proofs.{lemmas.Bool.Decides.nat_tests, Common.{◌≡◌, ◌∙◌, ◌==◌, ℕ, ◌≤◌, List, [], ◌∷◌, ◌++◌, map, refl, ap, arith, append_assoc, Bool}}
use Rattle.std.proofs.Common.{true, false, Some, None, cond, option_map, if◌then◌else◌}
use Rattle.std.specs.Char.{is_ascii}
use Rattle.legacy_base.specs.{declared.results.EncodeEvent.EncodeEvent, declared.results.EncodeEvent.TheVariants.Byte, EncodeEvents.{code_events, code_length}}
use Rattle.legacy_base.specs.declared.modes.EncoderMode.{EncoderMode, TheVariants.{Ascii, Roman, TwoByte}}
use Rattle.legacy_base.specs.Iso2022Jp.{is_mode_control, iso_2022_jp_pointer_of}
use Rattle.legacy_base.specs.Iso2022Jp.{iso_2022_jp_pair, iso_2022_jp_code, iso_2022_jp_reported, is_roman_scalar, is_two_byte_scalar, keeps_mode}
use Rattle.legacy_base.specs.Iso2022Jp.{roman_or_ascii, settled_mode, mode_after_text, escape_to, escape_between, iso_2022_jp_text_events}

-- ---- modes

roman_or_ascii-twice : (mode : EncoderMode) → roman_or_ascii (roman_or_ascii mode) ≡ roman_or_ascii mode
roman_or_ascii-twice mode = grind arith

pub escape_between-same : (mode : EncoderMode) → escape_between mode mode ≡ []
escape_between-same mode = grind arith

pub escape_between-other : (mode new : EncoderMode) → (mode ≡ new → ⊥) → escape_between mode new ≡ escape_to new
escape_between-other mode new h = grind arith

-- the mode after one scalar, by three tests of the scalar
abbrev pub mode_by : (pair keeps romans : Bool) → EncoderMode → EncoderMode
mode_by pair keeps romans mode = cond pair TwoByte (cond keeps (roman_or_ascii mode) (cond romans Roman Ascii))

mode_by-twice : (pair keeps romans : Bool) (mode : EncoderMode) → mode_by pair keeps romans (mode_by pair keeps romans mode) ≡ mode_by pair keeps romans mode
mode_by-twice pair keeps romans mode = grind (arith, roman_or_ascii-twice mode)

module _ (jis0208 katakana_index : List ℕ) where
  -- a scalar written as a pair determines the mode, and is not a scalar of Roman mode
  pair_settles : (c : ℕ) → is_two_byte_scalar jis0208 katakana_index c ≡ true → (keeps_mode jis0208 katakana_index c ≡ false) × (is_roman_scalar c ≡ false)
  unfolding iso_2022_jp_code
  pair_settles c h = grind arith

  settled_mode-settled : (mode : EncoderMode) (before : List ℕ)
      → roman_or_ascii (settled_mode jis0208 katakana_index mode before) ≡ settled_mode jis0208 katakana_index mode before
  unfolding settled_mode
  settled_mode-settled mode [] = roman_or_ascii-twice mode
  settled_mode-settled mode (c ∷ before) = let settled = settled_mode-settled mode before in grind arith

  settled_mode-after : (mode : EncoderMode) (before : List ℕ)
      → settled_mode jis0208 katakana_index mode before ≡ roman_or_ascii (mode_after_text jis0208 katakana_index mode before)
  unfolding mode_after_text settled_mode
  settled_mode-after mode before = grind (arith, nat_tests, pair_settles, settled_mode-settled)

  -- the mode after two parts is the mode after the second, begun in the mode after the first
  settled_mode-append : (mode : EncoderMode) (second first : List ℕ) → settled_mode jis0208 katakana_index mode (second ++ first)
      ≡ settled_mode jis0208 katakana_index (mode_after_text jis0208 katakana_index mode first) second
  unfolding settled_mode
  settled_mode-append mode [] first = settled_mode-after mode first
  settled_mode-append mode (c ∷ second) first = rw (settled_mode-append mode second first) refl

  pub mode_after_text-append : (mode : EncoderMode) (second first : List ℕ) → mode_after_text jis0208 katakana_index mode (second ++ first)
      ≡ mode_after_text jis0208 katakana_index (mode_after_text jis0208 katakana_index mode first) second
  unfolding mode_after_text
  mode_after_text-append mode [] first = refl
  mode_after_text-append mode (c ∷ second) first = rw (settled_mode-append mode (c ∷ second) first) refl

  -- the events after a first part are those of a text that begins in the mode after that part
  pub text_events-after : (mode : EncoderMode) (near far text : List ℕ) (ended : Bool)
      → iso_2022_jp_text_events jis0208 katakana_index mode (near ++ far) text ended
      ≡ iso_2022_jp_text_events jis0208 katakana_index (mode_after_text jis0208 katakana_index mode far) near text ended
  unfolding iso_2022_jp_text_events
  text_events-after mode near far [] ended = rw (mode_after_text-append mode near far) refl
  text_events-after mode near far (c ∷ text) ended =
      let rest = text_events-after mode (c ∷ near) far text ended in
      rw (mode_after_text-append mode near far, mode_after_text-append mode (c ∷ near) far, rest) refl

  -- ---- one scalar

  -- the mode after the scalar c
  abbrev pub mode_for : EncoderMode → ℕ → EncoderMode
  mode_for mode c = mode_after_text jis0208 katakana_index mode (c ∷ [])

  -- the events of the scalar itself, without an escape
  abbrev pub own_events : ℕ → List EncodeEvent
  own_events c = code_events (iso_2022_jp_reported c) (iso_2022_jp_code jis0208 katakana_index c)

  -- the events of a text that begins in the mode
  abbrev pub text_events : EncoderMode → List ℕ → Bool → List EncodeEvent
  text_events mode text ended = iso_2022_jp_text_events jis0208 katakana_index mode [] text ended

  pub mode_for-by : (mode : EncoderMode) (c : ℕ)
      → mode_for mode c ≡ mode_by (is_two_byte_scalar jis0208 katakana_index c) (keeps_mode jis0208 katakana_index c) (is_roman_scalar c) mode
  unfolding mode_after_text settled_mode
  mode_for-by mode c = refl

  -- the code of a scalar by its definition
  pub code_by : (c : ℕ) → iso_2022_jp_code jis0208 katakana_index c ≡ (if is_mode_control c then None else if is_ascii c then Some (c ∷ [])
      else if c == 0xA5 then Some (0x5C ∷ []) else if c == 0x203E then Some (0x7E ∷ [])
      else option_map iso_2022_jp_pair (iso_2022_jp_pointer_of jis0208 katakana_index c))
  unfolding iso_2022_jp_code
  code_by c = refl

  -- writing a scalar twice leaves the same mode as writing it once
  pub mode_for-twice : (mode : EncoderMode) (c : ℕ) → mode_for (mode_for mode c) c ≡ mode_for mode c
  mode_for-twice mode c = grind (arith, nat_tests, mode_for-by, mode_by-twice)

  mode_after_text-nothing : (mode : EncoderMode) → mode_after_text jis0208 katakana_index mode [] ≡ mode
  unfolding mode_after_text
  mode_after_text-nothing mode = refl

  -- the events of a scalar, and then those of the rest in the mode after it
  pub text_events-scalar : (mode : EncoderMode) (c : ℕ) (more : List ℕ) (ended : Bool) → text_events mode (c ∷ more) ended
      ≡ map Byte (escape_between mode (mode_for mode c)) ++ (own_events c ++ text_events (mode_for mode c) more ended)
  unfolding iso_2022_jp_text_events
  text_events-scalar mode c more ended =
      ap (λ m. (map Byte (escape_between m (mode_for mode c)) ++ own_events c) ++ iso_2022_jp_text_events jis0208 katakana_index mode (c ∷ []) more ended)
      (mode_after_text-nothing mode)
      ∙ append_assoc (map Byte (escape_between mode (mode_for mode c))) (own_events c) (iso_2022_jp_text_events jis0208 katakana_index mode (c ∷ []) more ended)
      ∙ ap (λ l. map Byte (escape_between mode (mode_for mode c)) ++ (own_events c ++ l)) (text_events-after mode [] (c ∷ []) more ended)

  -- a scalar that is written in the current mode needs no escape
  pub text_events-here : (mode : EncoderMode) (c : ℕ) → mode_for mode c ≡ mode → (more : List ℕ) (ended : Bool)
      → text_events mode (c ∷ more) ended ≡ own_events c ++ text_events mode more ended
  text_events-here mode c e more ended = grind (arith, nat_tests, text_events-scalar, escape_between-same)

  -- a scalar that is written in another mode: the escape to it, and then the same text begun in that mode
  pub text_events-escape : (mode new : EncoderMode) (c : ℕ) → mode_for mode c ≡ new → (mode ≡ new → ⊥) → (more : List ℕ) (ended : Bool)
      → text_events mode (c ∷ more) ended ≡ map Byte (escape_to new) ++ text_events new (c ∷ more) ended
  text_events-escape mode new c e n more ended = grind (arith, nat_tests, mode_for-twice, text_events-scalar, escape_between-other, text_events-here)

  -- ---- the end

  pub text_events-end : (mode : EncoderMode) → text_events mode [] true ≡ map Byte (escape_between mode Ascii)
  unfolding iso_2022_jp_text_events
  text_events-end mode = ap (λ m. map Byte (escape_between m Ascii)) (mode_after_text-nothing mode)

  pub text_events-open : (mode : EncoderMode) → text_events mode [] false ≡ []
  unfolding iso_2022_jp_text_events
  text_events-open mode = refl

  -- ---- the lengths of codes

  pub code-short : (c : ℕ) → code_length (iso_2022_jp_code jis0208 katakana_index c) ≤ 2
  unfolding iso_2022_jp_code
  code-short c = grind arith
