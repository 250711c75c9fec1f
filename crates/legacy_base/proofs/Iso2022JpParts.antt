-- The parts of a list that is cut before its escape bytes: the bytes up to the first escape byte, and the parts after
-- them. The events of a list are given by these two.
use Rattle.std.proofs.{lemmas.Bool.Decides.nat_tests, Common.{arith, ◌≡◌, ℕ, ◌+◌, false, cond, None, List, [], ◌∷◌, ◌++◌, drop, length, refl, add_assoc}}
use Rattle.std.proofs.{Common.{zero-add, add-zero}}
use Rattle.std.specs.Prelude.{◌==◌, unwrap_or}
use Rattle.legacy_base.specs.{declared.modes.DecoderMode.DecoderMode, Events.shift, Fronts.cut}
use Rattle.legacy_base.specs.Iso2022Jp.{esc, parts_of, part_mode, escape_length, iso_2022_jp_front, escape_events}
use Rattle.legacy_base.specs.Iso2022Jp.{part_events, parts_events, iso_2022_jp_events}
use Rattle.legacy_base.proofs.{Shifts.shift-append, Cuts.cut-place}

-- the bytes before the first escape byte
abbrev pub first_part : List ℕ → List ℕ
first_part [] = []
first_part (b ∷ bytes) = cond (b == esc) [] (b ∷ first_part bytes)

-- the parts from the first escape byte on
abbrev pub later_parts : List ℕ → List (List ℕ)
later_parts [] = []
later_parts (b ∷ bytes) = cond (b == esc) ((b ∷ first_part bytes) ∷ later_parts bytes) (later_parts bytes)

-- the list cut before its escape bytes consists of these two
pub parts_of-is : (bytes : List ℕ) → parts_of bytes ≡ first_part bytes ∷ later_parts bytes
unfolding parts_of
parts_of-is [] = refl
parts_of-is (b ∷ bytes) = rw (parts_of-is bytes) (grind arith)

-- a part that begins with another byte has no escape
pub no_escape : (b : ℕ) (part : List ℕ) → (b == esc) ≡ false → part_mode (b ∷ part) ≡ None
unfolding part_mode
no_escape b part h = grind arith

-- the first part begins with no escape, valid or not
first_unescaped : (place : ℕ) (bytes : List ℕ) (next : List (List ℕ)) →
    (part_mode (first_part bytes) ≡ None) × (escape_length (first_part bytes) ≡ 0) × (escape_events place (first_part bytes) next ≡ [])
unfolding part_mode escape_length escape_events
first_unescaped place [] next = (refl, refl, refl)
first_unescaped place (b ∷ bytes) next = let unescaped = no_escape b (first_part bytes) in grind (arith, unescaped)

-- the first part is all body, in the mode in which the list begins
first_events : (jis0208 : List ℕ) (mode : DecoderMode) (place : ℕ) (bytes : List ℕ) (next : List (List ℕ))
    → parts_events jis0208 mode place (first_part bytes ∷ next) ≡ cut (iso_2022_jp_front jis0208 mode) 0 place (first_part bytes)
    ++ parts_events jis0208 mode (place + length (first_part bytes)) next
unfolding parts_events part_events
first_events jis0208 mode place bytes next =
    let unescaped = first_unescaped place bytes next in rw (unescaped.0, unescaped.2, unescaped.1, add-zero)

-- the events of parts that begin k places later are shifted by k
escape_events-shift : (k place : ℕ) (part : List ℕ) (next : List (List ℕ)) → escape_events (k + place) part next ≡ shift k (escape_events place part next)
unfolding escape_events
escape_events-shift k place part next = grind arith

part_events-shift : (jis0208 : List ℕ) (mode : DecoderMode) (k place : ℕ) (part : List ℕ) (next : List (List ℕ))
    → part_events jis0208 mode (k + place) part next ≡ shift k (part_events jis0208 mode place part next)
unfolding part_events
part_events-shift jis0208 mode k place part next =
    rw (
      shift-append,
      add_assoc,
      escape_events-shift k place part next,
      cut-place (iso_2022_jp_front jis0208 mode) 0 k (place + escape_length part) (drop (escape_length part) part),
    )

pub parts_events-shift : (jis0208 : List ℕ) (mode : DecoderMode) (k place : ℕ) (parts : List (List ℕ))
    → parts_events jis0208 mode (k + place) parts ≡ shift k (parts_events jis0208 mode place parts)
unfolding parts_events
parts_events-shift jis0208 mode k place [] = refl
parts_events-shift jis0208 mode k place (part ∷ parts) =
    let m = unwrap_or (part_mode part) mode in
    rw (shift-append, add_assoc, part_events-shift jis0208 m k place part parts, parts_events-shift jis0208 m k (place + length part) parts)

pub parts_events-at : (jis0208 : List ℕ) (mode : DecoderMode) (place : ℕ) (parts : List (List ℕ))
    → parts_events jis0208 mode place parts ≡ shift place (parts_events jis0208 mode 0 parts)
parts_events-at jis0208 mode place parts = rw (← (parts_events-shift jis0208 mode place 0 parts), add-zero)

-- the events of a list: those of its first part in the given mode, and then those of the later parts
pub events-by_parts : (jis0208 : List ℕ) (mode : DecoderMode) (bytes : List ℕ) → iso_2022_jp_events jis0208 mode bytes
    ≡ cut (iso_2022_jp_front jis0208 mode) 0 0 (first_part bytes)
    ++ shift (length (first_part bytes)) (parts_events jis0208 mode 0 (later_parts bytes))
unfolding iso_2022_jp_events
events-by_parts jis0208 mode bytes = grind (arith, nat_tests, parts_of-is, first_events, zero-add, parts_events-at)
