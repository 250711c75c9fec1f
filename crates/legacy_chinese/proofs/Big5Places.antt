-- The entry of index Big5 at the sum of a lead's place and a trail's place.
use Rattle.std.proofs.Common.{◌≡◌, ◌∙◌, sym, Bool, List, true, ℕ, ◌+◌, ◌/◌, ◌%◌, [], ◌∷◌, cond, get_or, refl, arith, Some}
use Rattle.std.{specs.Char.IsScalar, proofs.lemmas.Bool.Decides.nat_tests}
use Rattle.legacy_tables.{specs.{Indexes.idx, AcceptedTables.AcceptedIndexes, Unicode.IsByte}, proofs.Accepted.{length-big5, big5-scalars, entry-used}}
use Rattle.legacy_base.specs.{Big5.big5_scalars, States.is_lead, Grammar.big5}
use Rattle.legacy_decoder_engine.specs.{ReadAhead.{Yields, IsFrontForm}, LaneCodes.ArePairs}
use Rattle.legacy_decoder_engine.{specs.{Places.Tabulates, LanePlaces.trail_place}, proofs.{LeadHeld.{pair, two}, PairPlaces.{found, none_past, pair_entry}}}
use Rattle.legacy_chinese.specs.{Big5Shown.{big5_codec, big5_pair_scalars}, PairPlaces.{pair_place, big5_lead_place}}
use Rattle.{legacy_chinese.specs.Big5Forms.IsMarkedForm, legacy_decoder_engine.specs.declared.forms.Form.{Form, TheVariants.{Marked, Other}}}
use Rattle.legacy_chinese.specs.declared.big5.places.TheConstants.{ROWS_OF_157}
use Rattle.legacy_tables.specs.declared.tables.IndexName.TheVariants as names

pub big5_rows_are : Tabulates big5_lead_place ROWS_OF_157
unfolding big5_lead_place
big5_rows_are = refl

pub big5_at : (tables : AcceptedIndexes) (lead trail : ℕ) → big5_scalars tables.flat.big5 (big5_lead_place lead + trail_place 0xA1 0xFE trail)
    ≡ cond (is_lead lead) (big5_pair_scalars tables.flat.big5 lead trail) []
unfolding big5_lead_place
big5_at tables lead trail = grind (arith, pair_entry, none_past, nat_tests, length-big5 tables.flat tables.accepted)

-- an entry is the only scalar of its pointer
entry_alone : (tables : AcceptedIndexes) (p c : ℕ) → Some c ≡ idx tables.flat.big5 p → c ∷ [] ≡ big5_scalars tables.flat.big5 p
entry_alone tables p c e = let used = entry-used tables.flat tables.accepted names.Big5 p c e in grind arith

found_two : (t : Bool) (scalars : List ℕ) (c d : ℕ) → c ∷ d ∷ [] ≡ cond t scalars [] → (t ≡ true) × (scalars ≡ c ∷ d ∷ [])
found_two t scalars c d e = (grind (arith, nat_tests), grind (arith, nat_tests))

-- an entry at the sum of the places is the scalar of the lead and the trail
pub big5_yields : (tables : AcceptedIndexes) (lead trail p c : ℕ) → IsByte lead → IsByte trail → IsScalar c →
    p ≡ big5_lead_place lead + trail_place 0xA1 0xFE trail → Some c ≡ idx tables.flat.big5 p → Yields (big5 tables.flat.big5) (lead ∷ trail ∷ []) (c ∷ [])
big5_yields tables lead trail p c byte byte' scalar is e =
    let both = found (is_lead lead) (big5_pair_scalars tables.flat.big5 lead trail) c (rw is at (entry_alone tables p c e) ∙ big5_at tables lead trail) in
    pair big5_codec tables lead trail c byte byte' scalar both.0 both.1

-- a letter and a mark at the sum of the places are the scalars of the lead and the trail
pub big5_marked : (tables : AcceptedIndexes) (lead trail c d p : ℕ) (form : Form) → IsByte lead → IsByte trail
    → p ≡ big5_lead_place lead + trail_place 0xA1 0xFE trail → IsMarkedForm p form → IsFrontForm (big5 tables.flat.big5) lead trail c d form
big5_marked tables lead trail _ _ p (Marked c d) byte byte' is marked =
    let e = rw is at (marked.4 tables.flat.big5) in
    let both = found_two (is_lead lead) (big5_pair_scalars tables.flat.big5 lead trail) c d (sym e ∙ big5_at tables lead trail) in
    (marked.0, marked.1, two big5_codec tables lead trail c d byte byte' marked.2 marked.3 both.0 both.1)
big5_marked tables lead trail _ _ p Other byte byte' is marked = tt
big5_marked tables lead trail _ _ p form byte byte' is marked = grind (arith, marked)

-- the same of a code of two bytes
pub big5_pairs : (tables : AcceptedIndexes) → ArePairs (big5 tables.flat.big5) tables.flat.big5 (pair_place 157 0xA1)
unfolding big5_lead_place
big5_pairs tables code small past within narrow some =
    let p = pair_place 157 0xA1 code in
    let c = get_or tables.flat.big5 p 0 in
    let is : p ≡ big5_lead_place (code % 256) + trail_place 0xA1 0xFE (code / 256) = omega (arith, within, length-big5 tables.flat tables.accepted) in
    let scalar : IsScalar c = big5-scalars tables.flat tables.accepted p 0 within in
    (scalar, (narrow, big5_yields tables (code % 256) (code / 256) p c (omega arith) (omega arith) scalar is (grind (arith, nat_tests))))
