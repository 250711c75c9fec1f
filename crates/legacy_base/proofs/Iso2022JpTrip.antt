-- The output of an ISO-2022-JP encoder decodes to its text. The escapes give no events, and each code is read in the
-- mode in which it was written.
use Rattle.std.proofs.Common.{◌≡◌, ℕ, ◌+◌, ◌/◌, ◌%◌, List, [], ◌∷◌, ◌++◌, map, length, true, false, cond, ◌||◌, ◌==◌, Option, Some, None, is_some}
use Rattle.std.proofs.{Common.{refl, sym, ap, ◌∙◌, append_assoc, length-append, arith}, lemmas.Bool.{and_right, or_parts}}
use Rattle.std.proofs.lemmas.Bool.Decides.{nat_tests}
use Rattle.std.specs.Char.{is_ascii}
use Rattle.legacy_base.specs.{declared.results.DecodeEvent.DecodeEvent, declared.results.DecodeEvent.TheVariants.{Scalar, Bad}}
use Rattle.legacy_base.specs.{declared.results.EncodeEvent.EncodeEvent, declared.results.EncodeEvent.TheVariants.Byte, Events.shift, Fronts.reads}
use Rattle.legacy_base.specs.declared.modes.EncoderMode.{EncoderMode, TheVariants.{Ascii as in_ascii, Roman as in_roman, TwoByte as in_two_byte}}
use Rattle.legacy_base.specs.{declared.modes.DecoderMode.{DecoderMode, TheVariants.{Ascii, Roman, TwoByte}}, Iso2022Jp.{esc, escape_mode}}
use Rattle.legacy_base.specs.Iso2022Jp.{part_mode, iso_2022_jp_front, iso_2022_jp_events, is_whole_escape, is_mode_control, iso_2022_jp_fold}
use Rattle.legacy_base.specs.{Iso2022Jp.{iso_2022_jp_pointer_of, iso_2022_jp_pair, iso_2022_jp_code, roman_or_ascii, escape_between}, Encoders.iso_2022_jp}
use Rattle.legacy_base.specs.RoundTrips.{is_fold, read_as, bytes_of, holds_adjacent_escapes}
use Rattle.legacy_tables.specs.Pointers.{is_jis0208_pointer, euc_jp_pointer_of}
use Rattle.legacy_base.proofs.{Shifts.{shift-zero, shift-append, shift-shift, shift-scalars}, PointersBack.{LeadsBack, leads_back}, Trips.same_byte_lists}
use Rattle.legacy_base.proofs.{Trips.{begins_with, has_code, coded, bytes_of-after, bytes_of-bytes, bytes_of-unmappable}, Iso2022JpParts.first_part}
use Rattle.legacy_base.proofs.{Iso2022JpFronts.{step_one, step_two, step_escape}, Iso2022JpEncoding.{mode_for, mode_for-by, own_events, text_events}}
use Rattle.legacy_base.proofs.Iso2022JpEncoding.{text_events-scalar, text_events-end}
use Rattle.legacy_tables.proofs.Pointers.{first-taken}

-- the decoder's mode for an encoder's mode
abbrev pub read_in : EncoderMode → DecoderMode
read_in in_ascii = Ascii
read_in in_roman = Roman
read_in in_two_byte = TwoByte

-- the list does not begin with a valid escape
unescaped_start : (b : ℕ) (bytes : List ℕ) → (b == esc) ≡ false → is_whole_escape (b ∷ bytes) ≡ false
unescaped_start b bytes h = grind arith

-- `part_mode` and `is_whole_escape` agree on which lists begin with a valid escape
escape_begins : (bytes : List ℕ) → is_some (part_mode bytes) ≡ is_whole_escape bytes
unfolding part_mode
escape_begins bytes = grind arith

-- A property of the bytes between two modes, which are none or one escape.
between : (P : EncoderMode → EncoderMode → List ℕ → Type 0) → ((mode : EncoderMode) → P mode mode [])
    → ((old new : EncoderMode) (a b : ℕ) → escape_mode a b ≡ Some (read_in new) → (a == esc) ≡ false → (b == esc) ≡ false → P old new (esc ∷ a ∷ b ∷ []))
    → (old new : EncoderMode) → P old new (escape_between old new)
between P h k old new = grind arith

module _ (jis0208 : List ℕ) where
  escape_alone : (old new : DecoderMode) (a b : ℕ) (rest : List ℕ) → escape_mode a b ≡ Some new → is_whole_escape rest ≡ false
      → iso_2022_jp_events jis0208 old (esc ∷ a ∷ b ∷ rest) ≡ shift 3 (iso_2022_jp_events jis0208 new rest)
  escape_alone old new a b rest valid alone =
      step_escape jis0208 old new a b rest valid
      ∙ ap (λ t. cond t (Bad 0 3 ∷ []) [] ++ shift 3 (iso_2022_jp_events jis0208 new rest)) (escape_begins rest ∙ alone)

  -- an escape from one mode to another gives no events, and the rest is read in the new mode
  escape_read : (old new : EncoderMode) (rest : List ℕ) → is_whole_escape rest ≡ false
      → iso_2022_jp_events jis0208 (read_in old) (escape_between old new ++ rest)
      ≡ shift (length (escape_between old new)) (iso_2022_jp_events jis0208 (read_in new) rest)
  escape_read old new rest h = grind (arith, nat_tests, between, shift-zero, escape_alone)

  -- ---- the codes

  -- the facts about the two bytes of pointer p, which decode to c
  record IsPairOf (p c : ℕ) : Type 0 where
    first_unescaped : ((p / 94 + 0x21) == esc) ≡ false
    second_unescaped : ((p % 94 + 0x21) == esc) ≡ false
    front : (rest : List ℕ) → iso_2022_jp_front jis0208 TwoByte (p / 94 + 0x21) ((p % 94 + 0x21) ∷ rest) ≡ reads 2 (c ∷ [])

  is_pair_of : (p c : ℕ) → LeadsBack is_jis0208_pointer jis0208 c p → IsPairOf p c
  unfolding iso_2022_jp_front
  is_pair_of p c back = grind arith

-- ---- adjacent escapes

adjacent-unescaped : (b : ℕ) (bytes : List ℕ) → (b == esc) ≡ false → holds_adjacent_escapes (b ∷ bytes) ≡ holds_adjacent_escapes bytes
unfolding holds_adjacent_escapes
adjacent-unescaped b bytes h = rw (unescaped_start b bytes h) refl

-- a valid escape with no other one after it
adjacent-escape : (a b : ℕ) (rest : List ℕ) → (a == esc) ≡ false → (b == esc) ≡ false → is_whole_escape rest ≡ false
    → holds_adjacent_escapes (esc ∷ a ∷ b ∷ rest) ≡ holds_adjacent_escapes rest
unfolding holds_adjacent_escapes
adjacent-escape a b rest ha hb h =
    rw (h, unescaped_start a (b ∷ rest) ha, unescaped_start b rest hb, and_right (is_some (escape_mode a b)) false refl) refl

escape_adjacent : (old new : EncoderMode) (rest : List ℕ) → is_whole_escape rest ≡ false →
    holds_adjacent_escapes (escape_between old new ++ rest) ≡ holds_adjacent_escapes rest
escape_adjacent old new rest h = grind (arith, nat_tests, between, adjacent-escape)

module _ (jis0208 katakana_index : List ℕ) where
  abbrev code : ℕ → Option (List ℕ)
  code = iso_2022_jp_code jis0208 katakana_index

  abbrev mode_of : EncoderMode → ℕ → EncoderMode
  mode_of = mode_for jis0208 katakana_index

  -- the events of a text from a mode
  abbrev sent : EncoderMode → List ℕ → List EncodeEvent
  sent mode text = text_events jis0208 katakana_index mode text true

  -- bytes in a mode that decode to c, and neither begin with an escape nor contain one
  record OwnRead (mode : EncoderMode) (c : ℕ) (bytes : List ℕ) : Type 0 where
    unescaped : (more : List ℕ) → is_whole_escape (bytes ++ more) ≡ false
    gives : (more : List ℕ) →
        iso_2022_jp_events jis0208 (read_in mode) (bytes ++ more) ≡ Scalar c ∷ shift (length bytes) (iso_2022_jp_events jis0208 (read_in mode) more)
    quiet : (more : List ℕ) → holds_adjacent_escapes (bytes ++ more) ≡ holds_adjacent_escapes more

  own_byte : (mode : EncoderMode) (c b : ℕ) → (b == esc) ≡ false
      → ((rest : List ℕ) → iso_2022_jp_front jis0208 (read_in mode) b rest ≡ reads 1 (c ∷ [])) → OwnRead mode c (b ∷ [])
  own_byte mode c b unescaped is = grind (arith, nat_tests, unescaped_start, step_one, first_part, adjacent-unescaped)

  own_pair : (p c : ℕ) → LeadsBack is_jis0208_pointer jis0208 c p → OwnRead in_two_byte c (iso_2022_jp_pair p)
  own_pair p c back = grind (arith, nat_tests, is_pair_of, unescaped_start, step_two, first_part, adjacent-unescaped)

  own_neutral : (mode : EncoderMode) (c : ℕ) → is_ascii c ≡ true → is_mode_control c ≡ false → (c == 0x5C || c == 0x7E) ≡ false →
      OwnRead (roman_or_ascii mode) c (c ∷ [])
  unfolding iso_2022_jp_front
  own_neutral mode c a m o = grind (arith, nat_tests, or_parts, own_byte)

  -- the scalar that is looked up for c, and its pointer
  record IsLookedUp (c p : ℕ) : Type 0 where
    scalar : ℕ
    fold : iso_2022_jp_fold katakana_index c ≡ Some scalar
    pointer : euc_jp_pointer_of jis0208 scalar ≡ Some p

  looked_up : (c p : ℕ) → iso_2022_jp_pointer_of jis0208 katakana_index c ≡ Some p → IsLookedUp c p
  looked_up c p h = grind arith

  -- the scalar that the code of c decodes to
  abbrev pub own_scalar : ℕ → ℕ
  own_scalar c = read_as (iso_2022_jp jis0208 katakana_index) c

  -- a scalar that is no fold decodes to itself
  pub no_fold : (c : ℕ) → is_fold (iso_2022_jp jis0208 katakana_index) c ≡ false → own_scalar c ≡ c
  no_fold c h = grind arith

  pub ascii_stands : (c : ℕ) → is_ascii c ≡ true → own_scalar c ≡ c
  ascii_stands c h = let unfolded : is_fold (iso_2022_jp jis0208 katakana_index) c ≡ false = grind (arith, nat_tests) in no_fold c unfolded

  -- the pair of the pointer that is looked up for c
  own_looked_up : (c p : ℕ) → iso_2022_jp_pointer_of jis0208 katakana_index c ≡ Some p → OwnRead in_two_byte (own_scalar c) (iso_2022_jp_pair p)
  own_looked_up c p e =
      let found = looked_up c p e in
      let back = leads_back is_jis0208_pointer jis0208 found.scalar _ (first-taken is_jis0208_pointer jis0208 found.scalar) p found.pointer in
      rw found.fold (own_pair p found.scalar back)

  -- the code of a scalar decodes to `own_scalar`, in the scalar's mode
  own_read : (mode : EncoderMode) (c : ℕ) (bytes : List ℕ) → code c ≡ Some bytes → OwnRead (mode_of mode c) (own_scalar c) bytes
  unfolding iso_2022_jp_code iso_2022_jp_front
  own_read mode c bytes is =
      rw (mode_for-by jis0208 katakana_index mode c) (grind (arith, nat_tests, own_byte, own_neutral, own_looked_up, ascii_stands))

  -- the mode for a scalar without a code
  pub none_keeps : (mode : EncoderMode) (c : ℕ) → code c ≡ None → mode_of mode c ≡ roman_or_ascii mode
  none_keeps mode c none = mode_for-by jis0208 katakana_index mode c ∙ rw none (grind arith)

  -- ---- texts

  -- the scalars of a text that have a code
  abbrev pub coded_here : List ℕ → List ℕ
  coded_here text = coded (code) text

  -- the scalars that the text decodes to
  abbrev pub text_back : List ℕ → List ℕ
  text_back text = map own_scalar (coded_here text)

  -- the bytes of a text that begins in the given mode
  abbrev pub text_bytes : EncoderMode → List ℕ → List ℕ
  text_bytes mode text = bytes_of (sent mode text)

  -- a scalar's escape, its own bytes and the bytes after it, by its code
  abbrev pub scalar_bytes : EncoderMode → EncoderMode → Option (List ℕ) → List ℕ → List ℕ
  scalar_bytes mode new None after = escape_between mode new ++ after
  scalar_bytes mode new (Some own) after = escape_between mode new ++ (own ++ after)

  pub text_bytes-scalar : (mode : EncoderMode) (c : ℕ) (text : List ℕ) → text_bytes mode (c ∷ text)
      ≡ scalar_bytes mode (mode_of mode c) (code c) (text_bytes (mode_of mode c) text)
  text_bytes-scalar mode c text = grind (arith, nat_tests, text_events-scalar, bytes_of-after, own_events, bytes_of-unmappable)

  pub text_bytes-end : (mode : EncoderMode) → text_bytes mode [] ≡ escape_between mode in_ascii
  text_bytes-end mode = ap bytes_of (text_events-end jis0208 katakana_index mode) ∙ bytes_of-bytes (escape_between mode in_ascii)

  -- ---- lists that begin with a valid escape, and lists that do not

  text_begins : (mode : EncoderMode) (text more : List ℕ) → is_whole_escape more ≡ false
      → is_whole_escape (text_bytes mode text) ≡ false → is_whole_escape (text_bytes mode text ++ more) ≡ false
  text_begins mode [] more unescaped h =
      let alone = rw (text_bytes-end mode) at h in rw (text_bytes-end mode) (grind arith)
  text_begins mode (c ∷ text) more unescaped h =
      let new = mode_of mode c in
      let later = text_begins new text more unescaped in
      let first = λ (own : List ℕ) (e : code c ≡ Some own). (own_read mode c own e).unescaped (text_bytes new text ++ more) in
      let alone = rw (text_bytes-scalar mode c text) at h in
      rw (text_bytes-scalar mode c text) (grind (arith, later, first, append_assoc))

  -- ---- no two adjacent escapes

  -- if a list has no adjacent escapes, neither has its end
  pub rest_apart : (front bytes : List ℕ) → holds_adjacent_escapes (front ++ bytes) ≡ false → holds_adjacent_escapes bytes ≡ false
  unfolding holds_adjacent_escapes
  rest_apart [] bytes h = h
  rest_apart (b ∷ front) bytes h = rest_apart front bytes (or_parts _ (holds_adjacent_escapes (front ++ bytes)) h).1

  -- no second escape follows an escape
  pub escape_apart : (old new : EncoderMode) (bytes : List ℕ) → (old ≡ new → ⊥) → holds_adjacent_escapes (escape_between old new ++ bytes) ≡ false →
      is_whole_escape bytes ≡ false
  unfolding holds_adjacent_escapes
  escape_apart old new bytes h k = grind arith

  -- ---- decoding

  -- The events of the bytes of a text that began in the given mode, with more bytes after them. They are the scalars
  -- that the text decodes to, and then the events of those bytes, read in ASCII mode.
  abbrev pub IsTextRead : EncoderMode → List ℕ → List ℕ → List ℕ → Type 0
  IsTextRead mode back bytes more =
      iso_2022_jp_events jis0208 (read_in mode) (bytes ++ more) ≡ map Scalar back ++ shift (length bytes) (iso_2022_jp_events jis0208 Ascii more)

  -- the events of c, and then those of the bytes after its n bytes
  scalar_then : (n m c : ℕ) (back : List ℕ) (events : List DecodeEvent)
      → Scalar c ∷ shift n (map Scalar back ++ shift m events) ≡ map Scalar (c ∷ back) ++ shift (n + m) events
  scalar_then n m c back events =
      rw (shift-append n (map Scalar back) (shift m events), shift-scalars n back, shift-shift n m events) refl

  -- the events after an escape
  escape_then : (old new : EncoderMode) (back bytes more : List ℕ) → is_whole_escape (bytes ++ more) ≡ false
      → IsTextRead new back bytes more → IsTextRead old back (escape_between old new ++ bytes) more
  escape_then old new back bytes more alone read = grind (arith, nat_tests, append_assoc, length-append, escape_read, shift-append, shift-scalars, shift-shift)

  text_read-scalar : (mode new : EncoderMode) (c : ℕ) (own back after more : List ℕ)
      → OwnRead new c own → IsTextRead new back after more → IsTextRead mode (c ∷ back) (escape_between mode new ++ (own ++ after)) more
  text_read-scalar mode new c own back after more o read =
      let all = after ++ more in
      let joined : IsTextRead new (c ∷ back) (own ++ after) more =
      rw (append_assoc, length-append) (o.gives all ∙ rw read (scalar_then (length own) (length after) c back (iso_2022_jp_events jis0208 Ascii more))) in
      escape_then mode new (c ∷ back) (own ++ after) more (rw (append_assoc own after more) (o.unescaped all)) joined

  pub text_read : (mode : EncoderMode) (text more : List ℕ) → is_whole_escape more ≡ false
      → holds_adjacent_escapes (text_bytes mode text) ≡ false → IsTextRead mode (text_back text) (text_bytes mode text) more
  text_read mode [] more unescaped h = rw (text_bytes-end mode) (escape_read jis0208 mode in_ascii more unescaped)
  text_read mode (c ∷ text) more unescaped h =
      let new = mode_of mode c in
      let after = text_bytes new text in
      let later = text_read new text more unescaped in
      let begins = text_begins new text more unescaped in
      let none = rest_apart (escape_between mode new) after in
      let some = λ (own : List ℕ) (e : code c ≡ Some own) (k : holds_adjacent_escapes (escape_between mode new ++ (own ++ after)) ≡ false).
      text_read-scalar mode new (own_scalar c) own (text_back text) after more (own_read mode c own e)
      (later (rest_apart own after (rest_apart (escape_between mode new) (own ++ after) k))) in
      let apart = rw (text_bytes-scalar mode c text) at h in
      rw (text_bytes-scalar mode c text) (grind (arith, nat_tests, some, none, none_keeps mode c, later, begins, escape_then, escape_apart))

  -- ---- texts without unmappable scalars

  -- all scalars of the text have codes, and no two escapes are adjacent
  pub record HasNoAdjacentEscapes (text bytes : List ℕ) : Type 0 where
    pub coded_all : coded_here text ≡ text
    pub apart : holds_adjacent_escapes bytes ≡ false

  apart-end : (mode : EncoderMode) → holds_adjacent_escapes (escape_between mode in_ascii) ≡ false
  unfolding holds_adjacent_escapes
  apart-end mode = grind arith

  pub text_apart : (mode : EncoderMode) (text bytes : List ℕ) → sent mode text ≡ map Byte bytes → HasNoAdjacentEscapes text bytes
  text_apart mode [] bytes e =
      let same = same_byte_lists (escape_between mode in_ascii) bytes (sym (text_events-end jis0208 katakana_index mode) ∙ e) in
      record { coded_all = refl; apart = rw (← same) (apart-end mode) }
  text_apart mode (c ∷ text) bytes e =
      let new = mode_of mode c in
      let later = sent new text in
      let escape =
      begins_with (escape_between mode new) bytes (own_events jis0208 katakana_index c ++ later)
      (sym (text_events-scalar jis0208 katakana_index mode c text true) ∙ e) in
      let here = has_code _ (code c) escape.rest later escape.after in
      let t = here.begins in
      let own = own_read mode c here.own here.code_is in
      let rest = text_apart new text t.rest t.after in
      record {
        coded_all = rw here.code_is (ap (λ (l : List ℕ). c ∷ l) rest.coded_all);
        apart = rw (escape.split, t.split) (escape_adjacent mode new (here.own ++ t.rest) (own.unescaped t.rest) ∙ own.quiet t.rest ∙ rest.apart);
      }
