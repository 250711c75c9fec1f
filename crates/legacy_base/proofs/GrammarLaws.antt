-- Laws of the events of whole lists.
use Rattle.std.proofs.{lemmas.Bool.Decides.nat_tests, Common.{arith, ◌≡◌, ℕ, List, [], ◌∷◌, length, refl, true}}
use Rattle.legacy_base.specs.{Fronts.{Front, cut}, Iso2022Jp.{parts_of, part_mode, escape_length, escape_events, part_events, parts_events, iso_2022_jp_events}}
use Rattle.legacy_base.specs.{Utf16.{units_of, has_odd_byte, units_events, utf16_events}, Replacement.replacement_events, Grammar.{Grammar, single_byte}}
use Rattle.legacy_base.specs.{Grammar.{user_defined, replacement, lead_trail, big5, shift_jis, euc_jp, gb18030, events_of}}
use Rattle.legacy_base.specs.{States.{may_hold, rests}, Laws.IsFrontOf}
use Rattle.legacy_base.specs.Laws.{IsReadByFronts, AreReadByFronts, HasNoneOfNothing}
use Rattle.legacy_tables.specs.{Unicode.IsByte, Tables.index_list}
use Rattle.legacy_tables.proofs.Accepted.{index-scalars, big5-scalars, jis0208-scalars, jis0212-scalars, gb18030-scalars, range-scalar}
use Rattle.legacy_tables.proofs.AcceptedTable.{table-scalars}
use Rattle.legacy_base.proofs.{Cuts.cut-front, FrontLaws.{single_byte_front-of, user_defined_front-of, lead_front-of, big5_front-of, shift_jis_front-of}}
use Rattle.legacy_base.proofs.FrontLaws.{euc_jp_front-of, gb18030_front-of}

read_by : (grammar : Grammar) (accepted : Type 0) (front : ℕ → List ℕ → Front) → ((bytes : List ℕ) → events_of grammar bytes ≡ cut front 0 0 bytes) →
    ((b : ℕ) (rest : List ℕ) → IsFrontOf (length (b ∷ rest)) (accepted × IsByte b) (front b rest)) → IsReadByFronts grammar accepted front
read_by grammar accepted front h k = grind (arith, nat_tests, cut-front)

pub read_by_fronts : AreReadByFronts
unfolding events_of
read_by_fronts = record {
  single_byte_is = λ table. read_by (single_byte table) _ _ (λ bytes. refl) (λ b. single_byte_front-of table (λ a. table-scalars table a.0) b);
  user_defined_is = read_by user_defined _ _ (λ bytes. refl) (λ b. user_defined_front-of b (λ a. a.1));
  lead_trail_is = λ is_lead_byte pointers name flat. read_by (lead_trail is_lead_byte pointers (index_list flat name)) _ _ (λ bytes. refl)
      (λ b. lead_front-of (index_list flat name) (λ a. index-scalars flat a.0 name) is_lead_byte pointers b);
  big5_is = λ flat. read_by (big5 flat.big5) _ _ (λ bytes. refl) (λ b. big5_front-of flat.big5 (λ a. big5-scalars flat a.0) b);
  shift_jis_is = λ flat. read_by (shift_jis flat.jis0208) _ _ (λ bytes. refl) (λ b. shift_jis_front-of flat.jis0208 (λ a. jis0208-scalars flat a.0) b);
  euc_jp_is = λ flat. read_by (euc_jp flat.jis0208 flat.jis0212) _ _ (λ bytes. refl)
      (λ b. euc_jp_front-of flat.jis0208 flat.jis0212 (λ a. jis0208-scalars flat a.0) (λ a. jis0212-scalars flat a.0) b);
  gb18030_is = λ flat. read_by (gb18030 flat.gb18030 flat.ranges) _ _ (λ bytes. refl)
      (λ b. gb18030_front-of flat.gb18030 flat.ranges (λ a. gb18030-scalars flat a.0) (λ p c e a. range-scalar flat a.0 p c e) b);
}

pub none_of_nothing : HasNoneOfNothing
unfolding events_of cut replacement_events utf16_events units_of has_odd_byte units_events iso_2022_jp_events
    parts_of part_mode escape_length escape_events part_events parts_events
none_of_nothing (replacement true) = refl
none_of_nothing _ = refl

-- an empty list may always be held back, and rests
pub may_none : (g : Grammar) → may_hold g [] ≡ true
may_none g = grind arith

pub rests-none : (g : Grammar) → rests g [] ≡ true
rests-none g = grind arith
