-- One equation for each kind of front: the events of a list are those of its first front, and then those of the rest.
-- With these a list is read from first to last, although the definition cuts it at escapes before any mode is known.
use Rattle.std.proofs.Common.{◌≡◌, ℕ, suc, ◌+◌, false, cond, Some, None, List, [], ◌∷◌, ◌++◌, length, refl, zero-add, one-add, append_assoc, arith}
use Rattle.std.proofs.{lemmas.Bool.{eqb-true, ne_eqb}, lemmas.Bool.Decides.nat_tests}
use Rattle.std.specs.Prelude.{◌==◌, ◌&&◌, is_some}
use Rattle.legacy_base.specs.{declared.results.DecodeEvent.TheVariants.Bad, Events.shift, Fronts.{Front, front_length, front_events, cut}}
use Rattle.legacy_base.specs.declared.modes.DecoderMode.{DecoderMode}
use Rattle.legacy_base.specs.Iso2022Jp.{esc, escape_mode, parts_of, part_mode, escape_length, begins_valid, iso_2022_jp_front, escape_events, part_events}
use Rattle.legacy_base.specs.Iso2022Jp.{parts_events, iso_2022_jp_events}
use Rattle.legacy_base.proofs.{Shifts.{shift-append, shift-shift, shift-zero}, Cuts.cut_from_zero, Iso2022JpParts.{first_part, later_parts, events-by_parts}}
use Rattle.legacy_base.proofs.Iso2022JpParts.{no_escape, parts_events-at}

-- the end of the list
pub step_end : (jis0208 : List ℕ) (mode : DecoderMode) → iso_2022_jp_events jis0208 mode [] ≡ []
unfolding iso_2022_jp_events parts_of parts_events part_events escape_events escape_length cut
step_end jis0208 mode = refl

-- a front of one byte
pub step_one : (jis0208 : List ℕ) (mode : DecoderMode) (b : ℕ) (more : List ℕ) (f : Front) → (b == esc) ≡ false
    → iso_2022_jp_front jis0208 mode b (first_part more) ≡ f → front_length f ≡ 1
    → iso_2022_jp_events jis0208 mode (b ∷ more) ≡ front_events 0 f ++ shift 1 (iso_2022_jp_events jis0208 mode more)
unfolding cut
step_one jis0208 mode b more f unescaped is one =
    grind (arith, nat_tests, events-by_parts, cut_from_zero, first_part, shift-append, shift-shift, append_assoc, one-add)

-- a front of two bytes
pub step_two : (jis0208 : List ℕ) (mode : DecoderMode) (b t : ℕ) (more : List ℕ) (f : Front) → (b == esc) ≡ false → (t == esc) ≡ false
    → iso_2022_jp_front jis0208 mode b (t ∷ first_part more) ≡ f → front_length f ≡ 2
    → iso_2022_jp_events jis0208 mode (b ∷ t ∷ more) ≡ front_events 0 f ++ shift 2 (iso_2022_jp_events jis0208 mode more)
unfolding cut
step_two jis0208 mode b t more f unescaped unescaped_t is two =
    grind (arith, nat_tests, first_part, events-by_parts, cut_from_zero, shift-append, shift-shift, append_assoc)

-- ---- escapes

-- a list and its first part begin with the same valid escape, if any
part_mode-first : (rest : List ℕ) → part_mode (esc ∷ first_part rest) ≡ part_mode (esc ∷ rest)
unfolding part_mode
part_mode-first rest = grind arith

-- the test for a valid escape directly before another one, by the bytes after the first
bare-first : (a b : ℕ) (more : List ℕ) → (length (esc ∷ a ∷ b ∷ first_part more) == 3 && begins_valid (later_parts more)) ≡ is_some (part_mode more)
unfolding part_mode
bare-first a b more = grind (arith, nat_tests, first_part, later_parts, eqb-true, part_mode-first, no_escape, ne_eqb)

-- an escape byte that begins no valid escape: the bytes after it are read in the old mode
pub step_no_escape : (jis0208 : List ℕ) (mode : DecoderMode) (rest : List ℕ) → part_mode (esc ∷ rest) ≡ None
    → iso_2022_jp_events jis0208 mode (esc ∷ rest) ≡ Bad 0 1 ∷ shift 1 (iso_2022_jp_events jis0208 mode rest)
unfolding parts_events part_events escape_events escape_length cut
step_no_escape jis0208 mode rest none =
    rw (
      events-by_parts jis0208 mode (esc ∷ rest),
      events-by_parts jis0208 mode rest,
      shift-zero,
      part_mode-first rest,
      none,
      zero-add (suc (length (first_part rest))),
    )
    (rw (parts_events-at jis0208 mode (suc (length (first_part rest))) (later_parts rest), cut_from_zero (iso_2022_jp_front jis0208 mode) 0 1 (first_part rest))
    (rw (shift-append, shift-shift, one-add)))

pub escape_ahead : (a b : ℕ) (mode : DecoderMode) (body : List ℕ) → escape_mode a b ≡ Some mode → part_mode (esc ∷ a ∷ b ∷ body) ≡ Some mode
unfolding part_mode
escape_ahead a b mode body h = h

-- a valid escape: the bytes after it are read in its mode
pub step_escape : (jis0208 : List ℕ) (mode new_mode : DecoderMode) (a b : ℕ) (more : List ℕ) → escape_mode a b ≡ Some new_mode
    → iso_2022_jp_events jis0208 mode (esc ∷ a ∷ b ∷ more)
    ≡ cond (is_some (part_mode more)) (Bad 0 3 ∷ []) [] ++ shift 3 (iso_2022_jp_events jis0208 new_mode more)
unfolding parts_events part_events escape_events escape_length cut
step_escape jis0208 mode new_mode a b more valid =
    let n = length (first_part more) in
    let more_by_three : 3 + n ≡ suc (suc (suc n)) = omega arith in
    let second : (a == esc) ≡ false = grind (arith, nat_tests) in
    let third : (b == esc) ≡ false = grind (arith, nat_tests) in
    rw (events-by_parts jis0208 mode (esc ∷ a ∷ b ∷ more), events-by_parts jis0208 new_mode more, shift-zero)
    (rw (second, third)
    (rw (escape_ahead a b new_mode (first_part more) valid, bare-first a b more, zero-add (suc (suc (suc n))))
    (rw (parts_events-at jis0208 new_mode (suc (suc (suc n))) (later_parts more), cut_from_zero (iso_2022_jp_front jis0208 new_mode) 0 3 (first_part more))
    (rw (shift-append, shift-shift, more_by_three, append_assoc)))))
