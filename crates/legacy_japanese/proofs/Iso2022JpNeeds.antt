-- What may be held back, and what an ISO-2022-JP decoder needs and how that decreases.
use Rattle.std.proofs.Common.{◌≡◌, ℕ, ◌+◌, ◌*◌, ◌<◌, ◌≤◌, Bool, true, None, Some, List, [], ◌∷◌, length, refl, arith, length-append, ◌&&◌}
use Rattle.std.{specs.Char.{is_ascii, IsScalar}, proofs.lemmas.{Bool.Decides.nat_tests, Grind.common_steps}}
use Rattle.legacy_tables.{specs.{Indexes.idx, AcceptedTables.AcceptedIndexes}, proofs.Accepted.{idx-all, jis0208-below, jis0208-scalars}}
use Rattle.legacy_base.specs.{DecoderActs.need_in, Lengths.{LengthQuery, query_form, replacement_units, total_need}, Grammar.{iso_2022_jp, events_of}}
use Rattle.legacy_base.{specs.States.{rests, is_empty, may_hold}, proofs.Iso2022JpFronts.step_end}
use Rattle.legacy_text.{specs.EncodingForm.{EncodingForm, bmp_need, code_units, total_unit_count}, proofs.CodeUnits.length-code_units-bmp}
use Rattle.legacy_decoder_engine.{specs.Moves.{IsCovered, SameNeeds, read_need}, proofs.NeedMoves.no_short_need}
use Rattle.legacy_base.specs.declared.modes.DecoderMode.{DecoderMode}
use Rattle.legacy_japanese.specs.declared.iso_2022_jp.bytes.{Start.TheVariants.Nothing, Held.{Held, TheVariants.Begun}}
use Rattle.legacy_japanese.specs.Iso2022JpMachine.{bytes_held, is_held, is_resting, single, state_in, weight_of}

-- ---- the held-back bytes

-- the grammar may hold back these bytes
pub held_allowed : (jis0208 : List ℕ) (mode : DecoderMode) (held : Held) → is_held mode held ≡ true →
    may_hold (iso_2022_jp jis0208 mode) (bytes_held held) ≡ true
held_allowed jis0208 mode held h = grind arith

-- they rest exactly if the machine reads on
pub held_rests : (jis0208 : List ℕ) (mode : DecoderMode) (held : Held) → is_held mode held ≡ true →
    rests (iso_2022_jp jis0208 mode) (bytes_held held) ≡ is_resting mode held
held_rests jis0208 mode held h = grind arith

-- ---- the need of an act

-- all modes have the same needs
pub same_needs : (jis0208 : List ℕ) (before after : DecoderMode) → SameNeeds (iso_2022_jp jis0208 before) (iso_2022_jp jis0208 after)
same_needs jis0208 before after = record { codec = refl; full = λ form. refl; report = λ form. refl; wants = λ previous c. refl }

-- each byte needs the code units of a scalar up to U+FFFF
pub read_need-is : (form : EncodingForm) (jis0208 : List ℕ) (mode : DecoderMode) (held : Held) (byte : ℕ) →
    read_need form (state_in jis0208 mode held) byte ≡ bmp_need form
read_need-is form jis0208 mode held byte = no_short_need (is_ascii byte && is_empty (bytes_held held)) 1 (bmp_need form)

-- such a scalar fits
pub one_fits : (form : EncodingForm) (c : ℕ) → c < 0x1_0000 → total_unit_count form (c ∷ []) ≤ bmp_need form
one_fits form c h = let l = length-code_units-bmp form c h in let a = length-append (code_units form c) [] in omega arith

-- the scalar of a byte, and of a pointer in the index
pub single_narrow : (mode : DecoderMode) (b c : ℕ) → single mode b ≡ Some c → (c < 0x1_0000) × IsScalar c
single_narrow mode b c is = grind (arith, nat_tests)

pub entry_narrow : (tables : AcceptedIndexes) (p c : ℕ) → idx tables.flat.jis0208 p ≡ Some c → (c < 0x1_0000) × IsScalar c
entry_narrow tables p c is = grind (arith, common_steps, idx-all, jis0208-below, jis0208-scalars)

-- ---- the total need of a state

-- the need of the input bytes and the held-back bytes: for each a scalar up to U+FFFF
pub room-is : (query : LengthQuery) (jis0208 : List ℕ) (mode : DecoderMode) (held : Held) (n : ℕ) →
    total_need query (state_in jis0208 mode held) n ≡ bmp_need (query_form query) * (n + weight_of held)
room-is query jis0208 mode held n = grind arith

-- the total need decreases by what is written, if the weight decreases by the number of scalars and reports
pub total_need-falls : (query : LengthQuery) (jis0208 : List ℕ) (mode new_mode : DecoderMode) (held new_held : Held) (n m r u : ℕ)
    → (m + weight_of new_held) + r ≤ n + weight_of held → u ≤ bmp_need (query_form query) * r
    → total_need query (state_in jis0208 new_mode new_held) m + u ≤ total_need query (state_in jis0208 mode held) n
total_need-falls query jis0208 mode new_mode held new_held n m r u h k =
    rw (room-is query jis0208 mode held n, room-is query jis0208 new_mode new_held m) (grind arith)

-- the need of a malformed sequence
pub replacement_fits : (query : LengthQuery) → replacement_units query ≤ bmp_need (query_form query) * 1
replacement_fits query = grind arith

pub times_one : (query : LengthQuery) (u : ℕ) → u ≤ bmp_need (query_form query) → u ≤ bmp_need (query_form query) * 1
times_one query u h = grind arith

-- ---- the need of the next act

-- the total need of a length query is enough for the next act
pub covered : (jis0208 : List ℕ) (mode : DecoderMode) (held : Held) → IsCovered (state_in jis0208 mode held)
unfolding events_of
covered jis0208 mode held = record { covers = λ query unread last. rw (room-is query jis0208 mode held (length unread)) (enough query last unread held) }
  where
    enough : (query : LengthQuery) (last : Bool) (unread : List ℕ) (held : Held) → need_in (query_form query) (state_in jis0208 mode held) unread last
        ≤ bmp_need (query_form query) * (length unread + weight_of held)
    enough query last [] (Begun None Nothing) = rw (step_end jis0208 mode) (omega arith)
    enough query last unread held = grind (arith, nat_tests, read_need-is)
