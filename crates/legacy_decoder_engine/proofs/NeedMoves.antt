-- From the code units that a decoder's steps write to the lengths that its queries return.
use Rattle.std.proofs.Common.{◌≡◌, refl, ℕ, ◌+◌, ◌*◌, ◌<◌, ◌≤◌, List, [], ◌∷◌, length, Bool, true, false, cond, ◌&&◌, mul-add, arith}
use Rattle.std.specs.Char.{is_ascii}
use Rattle.std.proofs.{lemmas.Bool.{false≢true, Decides.nat_tests}, Math.Nat.mul-le-mul_left}
use Rattle.legacy_tables.specs.Unicode.{IsByte, AreBytes}
use Rattle.legacy_base.{specs.States.{DecoderState, is_empty, may_hold, rests, state_of}, proofs.Enough.total_need-rises}
use Rattle.legacy_base.specs.DecoderActs.{takes, writes, act_need, need, full_need, full_need_in, release_need_in, has_reported, has_short_ascii}
use Rattle.legacy_base.specs.Grammar.{Grammar, profile}
use Rattle.legacy_base.specs.Lengths.{LengthQuery, to_utf16, to_utf8, to_utf8_without_replacement, query_form, replacement_units, total_need}
use Rattle.{legacy_text.specs.EncodingForm.{unit_count, bmp_need, wide_need}, legacy_decoder_engine.specs.Steps.{Step, step_held, DecoderMachine, Meets}}
use Rattle.legacy_decoder_engine.{specs.{StepUnits.{step_units, step_left, IsWidth, Cost, WritePays}, Shown.KeepsNeeds}, proofs.Widths.width_of}

pub first_need : (t : Bool) (x y : ℕ) → cond ((t && true) && true) x y ≡ cond t x y
first_need true x y = refl
first_need false x y = refl

pub held_need_is : (t u : Bool) (x y : ℕ) → cond ((t && false) && u) x y ≡ y
held_need_is true u x y = refl
held_need_is false u x y = refl

pub no_short_need : (t : Bool) (x y : ℕ) → cond (t && false) x y ≡ y
no_short_need true x y = refl
no_short_need false x y = refl

pub cond_most : (t : Bool) (x y z : ℕ) → x ≤ z → y ≤ z → cond t x y ≤ z
cond_most true x y z h k = h
cond_most false x y z h k = k

-- no next act needs more than the total need if none of the three kinds of acts does
pub all_needs : (narrow wide : ℕ) (total_need : ℕ → ℕ) (g : Grammar) (m : DecoderMachine) → Meets g m → rests g [] ≡ true → (held : List ℕ)
    → may_hold g held ≡ true →
    ((b n : ℕ) → 0 < n → act_need narrow wide (state_of g held) (takes b) ≤ total_need n) →
    ((n : ℕ) → 0 < length held → act_need narrow wide (state_of g held) writes ≤ total_need n) →
    (unread : List ℕ) (last : Bool) → need narrow wide (state_of g held) unread last ≤ total_need (length unread)
all_needs narrow wide total_need g m meets empty held may take write [] last = grind (arith, nat_tests, meets.ends held may, write 0, empty, false≢true)
all_needs narrow wide total_need g m meets empty held may take write (b ∷ unread) last =
    grind (arith, nat_tests, take b (length (b ∷ unread)), write (length (b ∷ unread)), empty, false≢true)

-- each byte less lowers the total need by at least half of `slope`
abbrev pub Falls : (DecoderState → ℕ → ℕ) → Grammar → (List ℕ → ℕ) → ℕ → Type 0
Falls total_need g wt slope = (held held' : List ℕ) (n n' u : ℕ) → 2 * u + slope * (n' + wt held') ≤ slope * (n + wt held)
    → total_need (state_of g held') n' + u ≤ total_need (state_of g held) n

-- the code units that a codec's steps write, in either encoding form
pub record HasCosts (g : Grammar) (m : DecoderMachine) (wt : List ℕ → ℕ) (slope : ℕ) : Type 0 where
  pub to_is : (held : List ℕ) (b : ℕ) → m.to held b ≡ g
  pub cost : (len : ℕ → ℕ) (narrow wide : ℕ) → IsWidth len narrow wide → (held : List ℕ) (b : ℕ) → may_hold g held ≡ true → rests g held ≡ true
      → AreBytes held → IsByte b → Cost len narrow (act_need narrow wide (state_of g held) (takes b)) wt slope held b (m.step held b)

-- twice the code units by which each byte less lowers the total need
abbrev pub query_slope : ℕ → LengthQuery → ℕ
query_slope paid to_utf16 = 2
query_slope paid to_utf8 = 6
query_slope paid to_utf8_without_replacement = paid

-- The facts about the needs of a codec that are left to show. Held-back bytes have more weight than none. Each need
-- falls by its slope. A held-back scalar that is to be written lowers its need enough. The need covers a byte, and the
-- held-back bytes.
pub record IsSloped (g : Grammar) (m : DecoderMachine) (wt : List ℕ → ℕ) (paid : ℕ) : Type 0 where
  pub heavy : (b : ℕ) (held : List ℕ) → may_hold g (b ∷ held) ≡ true → wt [] + 1 ≤ wt (b ∷ held)
  pub falls : (query : LengthQuery) → Falls (total_need query) g wt (query_slope paid query)
  pub writes : (query : LengthQuery) (held : List ℕ) → may_hold g held ≡ true → rests g held ≡ false → AreBytes held →
      WritePays (unit_count (query_form query)) (bmp_need (query_form query)) (wide_need (query_form query)) (total_need query) g held (m.pending held)
  pub reads : (query : LengthQuery) (held : List ℕ) → full_need_in (query_form query) g ≤ total_need query (state_of g held) 1
  pub holds : (query : LengthQuery) (b : ℕ) (held : List ℕ) → may_hold g (b ∷ held) ≡ true
      → release_need_in (query_form query) g ≤ total_need query (state_of g (b ∷ held)) 0

-- the amount by which a step lowers the total need
paid_of : (query : LengthQuery) (wt : List ℕ → ℕ) (paid at_most : ℕ) (held : List ℕ) (b : ℕ) (s : Step)
    → Cost (unit_count (query_form query)) (bmp_need (query_form query)) at_most wt paid held b s →
    2 * step_units (unit_count (query_form query)) (replacement_units query) s + query_slope paid query *
    (wt (step_held s held b) + step_left s) ≤ query_slope paid query * (wt held + 1)
paid_of to_utf16 wt paid at_most held b s h = omega (arith, h.pays)
paid_of to_utf8 wt paid at_most held b s h = omega (arith, h.pays)
paid_of to_utf8_without_replacement wt paid at_most held b s h = h.pays_without

between : (t : Bool) (x y : ℕ) → x ≤ y → (x ≤ cond t y x) × (cond t y x ≤ y)
between true x y h = (h, omega arith)
between false x y h = (omega arith, h)

-- an act that needs nothing, one code unit or `full` needs at most `full`
takes_most : (t u : Bool) (full : ℕ) → 1 ≤ full → cond t 0 (cond u 1 full) ≤ full
takes_most true u full h = omega arith
takes_most false true full h = h
takes_most false false full h = omega arith

pub narrow_read : (narrow wide : ℕ) → narrow ≤ wide → (g : Grammar) → (narrow ≤ full_need narrow wide g) × (full_need narrow wide g ≤ wide)
narrow_read narrow wide rises g = between (profile g).wide_reads narrow wide rises

module _ (g : Grammar) (m : DecoderMachine) (wt : List ℕ → ℕ) (paid : ℕ) (meets : Meets g m) (costs : HasCosts g m wt paid) (is : IsSloped g m wt paid)
    (query : LengthQuery) where
  held_covered : (held : List ℕ) (n : ℕ) → may_hold g held ≡ true → 0 < length held
      → release_need_in (query_form query) g ≤ total_need query (state_of g held) n
  held_covered [] n h some = absurd (omega (arith, some))
  held_covered (b ∷ held) n h some = omega (arith, is.holds query b held h, total_need-rises query (state_of g (b ∷ held)) 0 n (omega arith))

  pub sloped_needs : KeepsNeeds query g m
  sloped_needs =
      let w = width_of (query_form query) in
      let cost = costs.cost _ _ _ w in
      record {
        step_fits = λ held b h r bytes byte. (cost held b h r bytes byte).fits;
        step_pays = λ held b n h r bytes byte.
            let pays = paid_of query wt paid _ _ _ _ (cost held b h r bytes byte) in
            rw (costs.to_is held b) (is.falls query held _ (n + 1) (n + step_left (m.step held b)) _ (grind (arith, mul-add)));
        write_pays = is.writes query;
        report_pays = λ b held h r. is.falls query (b ∷ held) [] 0 0 _ (grind (arith, mul-le-mul_left, is.heavy b held h));
        reads_covered = λ held b n h some.
            let full = full_need_in (query_form query) g in
            let one : 1 ≤ full = omega (arith, w.some, (narrow_read (bmp_need (query_form query)) (wide_need (query_form query)) w.rises g).0) in
            let most = takes_most (has_reported g) ((is_ascii b && is_empty held) && has_short_ascii g) full one in
            omega (arith, most, is.reads query held, total_need-rises query (state_of g held) 1 n (omega (arith, some)));
        holds_covered = held_covered;
      }
