-- Laws of the bytes that are read ahead and of the scalars written for them.
use Rattle.std.proofs.Common.{add-zero, ◌≡◌, ℕ, ◌<◌, [], ◌∷◌, ◌++◌, length, take, drop, get_or, refl, sym, arith, suc, ◌+◌, ◌-◌, ◌*◌, ◌≤◌, List, append_assoc}
use Rattle.std.proofs.Common.{append-nil, length-append, IsAscii}
use Rattle.std.proofs.lemmas.List.{take_rest, map-append, take_more, Elements.{All-append, All-nil}}
use Rattle.std.{proofs.Math.Seq.take-add, specs.Char.IsScalar}
use Rattle.legacy_text.specs.{EncodingForm.{EncodingForm, code_units, all_code_units, bmp_need, total_unit_count}, declared.destination.Destination.Ghosts}
use Rattle.legacy_text.proofs.CodeUnits.{all_code_units-append, total_unit_count-append, code_units_ascii, length-code_units-bmp, length-code_units-wide}
use Rattle.legacy_base.specs.{Grammar.Grammar, States.DecoderState}
use Rattle.legacy_base.proofs.{Shifts.{shift-append, shift-zero, shift-shift, shift-scalars}, SameUnits.some_unit}
use Rattle.legacy_decoder_engine.{specs.ReadAhead.{HasAscii, YieldsTo, Yields, WritesTo, Writes, ReadsAhead}, proofs.CallUnderWay.same_needs}

pub yields_none : (g : Grammar) → Yields g [] []
yields_none g = grind (arith, shift-zero, All-nil, add-zero)

pub yields_then : (g h k : Grammar) (xs ys cs ds : List ℕ) → YieldsTo g h xs cs → YieldsTo h k ys ds → YieldsTo g k (xs ++ ys) (cs ++ ds)
yields_then g h k xs ys cs ds a b = record {
  events = λ more. simp (append_assoc, a.events, b.events, shift-append, shift-scalars, shift-shift, map-append, length-append);
  scalar = All-append IsScalar cs ds a.scalar b.scalar;
  lowers = λ query n. grind (arith, a.lowers query (n + length ys), b.lowers query n, length-append, total_unit_count-append);
}

pub yields_more : (g : Grammar) (xs ys cs ds : List ℕ) → Yields g xs cs → Yields g ys ds → Yields g (xs ++ ys) (cs ++ ds)
yields_more g = yields_then g g g

pub yields_ascii : (g : Grammar) → HasAscii g → (xs : List ℕ) → IsAscii xs → Yields g xs xs
yields_ascii g law [] h = yields_none g
yields_ascii g law (x ∷ xs) h = yields_more g (x ∷ []) xs (x ∷ []) xs (law x (h 0)) (yields_ascii g law xs (λ i. h (suc i)))

pub yields_byte : {g : Grammar} → HasAscii g → (b c : ℕ) → b < 128 → c ≡ b → Yields g (b ∷ []) (c ∷ [])
yields_byte law b c below e = rw e (law b below)

pub all_code_units_ascii : (form : EncodingForm) (xs : List ℕ) → IsAscii xs → all_code_units form xs ≡ xs
all_code_units_ascii form [] h = refl
all_code_units_ascii form (x ∷ xs) h = rw (code_units_ascii form x (h 0), all_code_units_ascii form xs (λ i. h (suc i))) refl

pub four_fit : (form : EncodingForm) (c room : ℕ) → 4 ≤ room → length (code_units form c) ≤ room
four_fit form c room h = grind (arith, length-code_units-wide)

pub short : (form : EncodingForm) (c : ℕ) → c < 65536 → length (code_units form c) ≤ 3
short form c h = grind (arith, length-code_units-bmp)

pub all_short : (form : EncodingForm) (cs : List ℕ) → ((k : ℕ) → k < length cs → get_or cs k 0 < 65536) → total_unit_count form cs ≤ 3 * length cs
all_short form [] small = omega arith
all_short form (c ∷ cs) small = grind (arith, length-append, short form c (small 0 (omega arith)), all_short form cs (λ k h. small (suc k) (omega arith)))

pub three_fit : (form : EncodingForm) (c room : ℕ) → c < 65536 → 3 ≤ room → length (code_units form c) ≤ room
three_fit form c room h k = omega (arith, short form c h)

pub one_unit : (form : EncodingForm) (c : ℕ) → bmp_need form ≡ 1 → c < 65536 → length (code_units form c) ≡ 1
one_unit form c room h = omega (arith, length-code_units-bmp form c h, some_unit form c)

pub take_two : (src : List ℕ) (at : ℕ) → at + 1 < length src → take (at + 2) src ≡ take at src ++ get_or src at 0 ∷ get_or src (at + 1) 0 ∷ []
take_two src at h = grind (arith, take_more src (at + 1) 0 h, take_more src at 0, append_assoc)

-- the rest of a source, as the code takes it
module _ {D : Type 0} (T : Ghosts D) where
  pub writes_none : (g : Grammar) (old : D) → Writes T g [] old old
  writes_none g old = record { scalars = []; yields = yields_none g; written = sym (append-nil (T.contents old)); room = add-zero (T.room old); loan = refl }

  pub reads_none : (state : DecoderState) (source : List ℕ) (old : D) → ReadsAhead T state source 0 old old
  reads_none state source old = grind (arith, same_needs, writes_none)

  pub writes_then : {g h k : Grammar} {xs ys : List ℕ} {x y z : D} → WritesTo T g h xs x y → WritesTo T h k ys y z → WritesTo T g k (xs ++ ys) x z
  writes_then {g} {h} {k} {xs} {ys} a b =
      let yields = yields_then g h k xs ys a.scalars b.scalars a.yields b.yields in
      grind (arith, yields, append_assoc, all_code_units-append, total_unit_count-append)

  module _ {g : Grammar} {y z : D} where
    pub writes_put : (bytes : List ℕ) (c : ℕ) → Yields g bytes (c ∷ []) → T.contents z ≡ T.contents y ++ code_units T.form c
        → T.room z + length (code_units T.form c) ≡ T.room y → T.loan z ≡ T.loan y → Writes T g bytes y z
    writes_put bytes c yields contents room loan = grind (arith, append-nil)

  module _ {g : Grammar} {x y z : D} where
    module _ (src : List ℕ) (at c : ℕ) where
      pub writes_one : at < length src → Writes T g (take at src) x y → Yields g (get_or src at 0 ∷ []) (c ∷ [])
          → T.contents z ≡ T.contents y ++ code_units T.form c
          → T.room z + length (code_units T.form c) ≡ T.room y → T.loan z ≡ T.loan y → Writes T g (take (at + 1) src) x z
      writes_one h a yields contents room loan = rw (take_more src at 0 h) (writes_then a (writes_put _ c yields contents room loan))

      pub writes_two : at + 1 < length src → Writes T g (take at src) x y → Yields g (get_or src at 0 ∷ get_or src (at + 1) 0 ∷ []) (c ∷ [])
          → T.contents z ≡ T.contents y ++ code_units T.form c
          → T.room z + length (code_units T.form c) ≡ T.room y → T.loan z ≡ T.loan y → Writes T g (take (at + 2) src) x z
      writes_two h a yields contents room loan = grind (arith, take_two, writes_then, writes_put)

    pub writes_next : (src : List ℕ) (at r : ℕ) → Writes T g (take at src) x y → Writes T g (take r (take (length src - at) (drop at src))) y z
        → Writes T g (take (at + r) src) x z
    writes_next src at r a b = grind (arith, take-add, writes_then, take_rest)

  pub writes_ascii : (g : Grammar) (old new : D) (bytes : List ℕ) → HasAscii g → IsAscii bytes → T.contents new ≡ T.contents old ++ bytes
      → T.room new + length bytes ≡ T.room old → T.loan new ≡ T.loan old → Writes T g bytes old new
  writes_ascii g old new bytes law ascii contents room loan = grind (arith, all_code_units_ascii, yields_ascii g law bytes ascii)

pub ruleset no_bytes = (same_needs, writes_none)

pub ruleset one_by_one = (writes_none, writes_one, writes_two, three_fit, short)
