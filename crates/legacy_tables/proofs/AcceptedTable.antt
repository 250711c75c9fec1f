-- Facts about single-byte tables that passed their check.
use Rattle.std.proofs.Common.{◌≡◌, ◌≢◌, ℕ, zero, suc, ◌+◌, ◌<◌, List, [], ◌∷◌, length, get_or, refl, sym, arith, Some, None, true, false, ◌↔◌}
use Rattle.std.proofs.{Common.{eqb, eq-eqb, ◌==◌, position}, lemmas.Bool.{or_parts}}
use Rattle.std.proofs.{lemmas.Bool.Decides.nat_tests, lemmas.List.get_or_past, lemmas.List.Elements.{All-nil, All-cons}, lemmas.List.Quantifiers.position-Some}
use Rattle.std.specs.{List.{All, list_any, position_or_len}, Char.IsScalar}
use Rattle.legacy_tables.specs.{declared.tables.TableError.TheVariants.{BadByteEntry}, Indexes.idx, Unicode.AreScalars, TableChecks.is_byte_entry}
use Rattle.legacy_tables.specs.TableChecks.{byte_entry_fault, byte_entries_fault, IsAcceptedTable}
use Rattle.legacy_tables.proofs.Accepted.{or_none, entry_has, entry_scalar-is}

-- an accepted entry that is not 0 is not among the entries before it
once : (place : ℕ) (before : List ℕ) (c : ℕ) → byte_entry_fault place before c ≡ None → c ≢ 0 → list_any (λ x. eqb x c) before ≡ false
once place before c f n = grind arith

apart : (place : ℕ) (before entries : List ℕ) (k c : ℕ) → byte_entries_fault place before entries ≡ None → get_or entries k 0 ≡ c → c ≢ 0
    → list_any (λ x. eqb x c) before ≡ false
unfolding byte_entries_fault
apart place before [] k c f e n = absurd (n (sym e))
apart place before (x ∷ xs) zero c f e n = grind (arith, or_none, once)
apart place before (x ∷ xs) (suc k) c f e n = grind (arith, or_none, or_parts, apart (place + 1) (x ∷ before) xs k c)

-- the place of a scalar is its first place
first_place : (place : ℕ) (before entries : List ℕ) (k c : ℕ) → byte_entries_fault place before entries ≡ None → get_or entries k 0 ≡ c
    → c ≢ 0
    → position_or_len (λ x. x == c) entries ≡ k
unfolding byte_entries_fault
first_place place before [] k c f e n = absurd (n (sym e))
first_place place before (x ∷ xs) zero c f e n = rw (e, eq-eqb c c refl) refl
first_place place before (x ∷ xs) (suc k) c f e n =
    grind (arith, or_none, or_parts, apart (place + 1) (x ∷ before) xs k c, first_place (place + 1) (x ∷ before) xs k c)

byte-scalar : (e : ℕ) → is_byte_entry e ≡ true → IsScalar e
byte-scalar e h = grind (arith, nat_tests)

byte-below : (e : ℕ) → is_byte_entry e ≡ true → e < 0x1_0000
byte-below e h = grind (arith, nat_tests)

all_bytes : (P : ℕ → Type 0) → P 0 → ((e : ℕ) → is_byte_entry e ≡ true → P e) → (place : ℕ) (before entries : List ℕ)
    → byte_entries_fault place before entries ≡ None → All P entries
unfolding byte_entries_fault
all_bytes P at_zero good place before [] e = All-nil P
all_bytes P at_zero good place before (x ∷ xs) e =
    let h = or_none (byte_entry_fault place before x) _ e in
    All-cons P x xs (entry_has P x (is_byte_entry x) (BadByteEntry place) _ at_zero (good x) h.0)
    (all_bytes P at_zero good (place + 1) (x ∷ before) xs h.1)

module _ (table : List ℕ) (accepted : IsAcceptedTable table) where
  -- the entries of the table are scalars of the Basic Multilingual Plane
  pub table-scalars : AreScalars table
  table-scalars = all_bytes IsScalar refl byte-scalar 0 [] table accepted

  pub table-below : All (λ c. c < 0x1_0000) table
  table-below = all_bytes _ (omega arith) byte-below 0 [] table accepted

  pub within : (place c : ℕ) → get_or table place 0 ≡ c → c ≢ 0 → place < length table
  within place c e n = grind (arith, nat_tests, get_or_past)

  -- the first place of a scalar is the place that has it
  pub position-idx : (c : ℕ) → (c ≡ 0 → ⊥) → (place : ℕ) → (position (λ e. e == c) table ≡ Some place) ↔ (idx table place ≡ Some c)
  position-idx c n place = grind (arith, nat_tests, position-Some, entry_scalar-is, first_place, within)

pub ruleset accepted_table = (table-scalars)
