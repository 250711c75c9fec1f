-- Laws of what acts need, and of the room before each scalar.
use Rattle.std.proofs.Common.{◌≡◌, ◌≢◌, ℕ, ◌-◌, ◌≤◌, ◌<◌, List, [], ◌∷◌, ◌++◌, refl, subst, arith, length-append, Bool, true, false, not, ◌||◌, ◌&&◌, IsTrue}
use Rattle.std.proofs.{Common.{Some, None, Option}, Math.Nat.sub-zero}
use Rattle.std.specs.{Prelude.MatchBool, Char.is_ascii}
use Rattle.legacy_text.specs.EncodingForm.{EncodingForm, code_units, unit_count, all_code_units, total_unit_count, bmp_need, wide_need}
use Rattle.legacy_base.specs.{Grammar.{Grammar, events_of}, States.{DecoderState, rests}, DecoderActs.{takes, act_need, has_short_ascii, has_marks}}
use Rattle.legacy_base.specs.DecoderActs.{is_mark_after, need_in, LacksRoom, full_need_in, release_need_in, HadRoom, HadRoomReleased, HadRooms}

-- ---- the room before each scalar

-- a scalar after another one needs at most what it needs at first
less_after : (short marks : Bool) (after : Bool) → IsTrue (not (short || (marks && after))) → IsTrue (not (short || (marks && false)))
less_after short marks after h = grind arith

module _ (form : EncodingForm) where
  HadRoom-after : (g : Grammar) (p free : ℕ) (cs : List ℕ) → HadRoom form g None free cs → HadRoom form g (Some p) free cs
  unfolding HadRoom
  HadRoom-after g p free [] h = tt
  HadRoom-after g p free (c ∷ cs) h = (λ w. h.0 (less_after (has_short_ascii g && is_ascii c) (has_marks g) (is_mark_after (Some p) c) w), h.1)

  joined : (free x : ℕ) (xs : List ℕ) → free - total_unit_count form (x ∷ xs) ≡ free - unit_count form x - total_unit_count form xs
  joined free x xs = omega (arith, length-append (code_units form x) (all_code_units form xs))

  HadRoom-append : (g : Grammar) (previous : Option ℕ) (free : ℕ) (xs ys : List ℕ) → HadRoom form g previous free xs →
      HadRoom form g None (free - total_unit_count form xs) ys → HadRoom form g previous free (xs ++ ys)
  unfolding HadRoom
  HadRoom-append g None free [] ys a b = subst (λ n. HadRoom form g None n ys) (sub-zero free) b
  HadRoom-append g (Some p) free [] ys a b = HadRoom-after g p free ys (subst (λ n. HadRoom form g None n ys) (sub-zero free) b)
  HadRoom-append g previous free (x ∷ xs) ys a b =
      (a.0, HadRoom-append g (Some x) (free - unit_count form x) xs ys a.1 (subst (λ n. HadRoom form g None n ys) (joined free x xs) b))

  pub HadRooms-append : (s : DecoderState) (free : ℕ) (xs ys : List ℕ) → (rests s.grammar s.held ≡ false → xs ≢ []) → HadRooms form s free xs →
      HadRoom form s.grammar None (free - total_unit_count form xs) ys → HadRooms form s free (xs ++ ys)
  unfolding HadRoomReleased
  HadRooms-append s free xs ys n a b = by_rest (rests s.grammar s.held) xs n a b where
    by_rest : (r : Bool) (xs : List ℕ) → (r ≡ false → xs ≢ []) → MatchBool r (HadRoom form s.grammar None free xs) (HadRoomReleased form s.grammar free xs) →
        HadRoom form s.grammar None (free - total_unit_count form xs) ys →
        MatchBool r (HadRoom form s.grammar None free (xs ++ ys)) (HadRoomReleased form s.grammar free (xs ++ ys))
    by_rest true xs n a b = HadRoom-append s.grammar None free xs ys a b
    by_rest false [] n a b = absurd (n refl refl)
    by_rest false (x ∷ xs) n a b =
        (a.0, HadRoom-append s.grammar (Some x) (free - unit_count form x) xs ys a.1 (subst (λ n. HadRoom form s.grammar None n ys) (joined free x xs) b))

  pub HadRooms-none : (s : DecoderState) (free : ℕ) → HadRooms form s free []
  unfolding HadRoom HadRoomReleased
  HadRooms-none s free = grind arith

  pub HadRooms-released : (s : DecoderState) (free c : ℕ) → rests s.grammar s.held ≡ false → release_need_in form s.grammar ≤ free →
      HadRooms form s free (c ∷ [])
  unfolding HadRoom HadRoomReleased
  HadRooms-released s free c r h = let one : HadRoomReleased form s.grammar free (c ∷ []) = (h, tt) in rw r one

-- ---- the next act

pub need_in-release : (form : EncodingForm) (s : DecoderState) (source : List ℕ) (last : Bool) → rests s.grammar s.held ≡ false →
    need_in form s source last ≡ release_need_in form s.grammar
need_in-release form s source last e = rw e refl

pub need_in-read : (form : EncodingForm) (s : DecoderState) (x : ℕ) (xs : List ℕ) (last : Bool) → rests s.grammar s.held ≡ true →
    need_in form s (x ∷ xs) last ≡ act_need (bmp_need form) (wide_need form) s (takes x)
need_in-read form s x xs last e = rw e refl

pub need_in-report : (form : EncodingForm) (s : DecoderState) → rests s.grammar s.held ≡ true → events_of s.grammar s.held ≢ [] →
    need_in form s [] true ≡ release_need_in form s.grammar
need_in-report form s e f = grind arith

pub need_in-none : (form : EncodingForm) (s : DecoderState) (last : Bool) → rests s.grammar s.held ≡ true →
    (IsTrue last → events_of s.grammar s.held ≡ []) → need_in form s [] last ≡ 0
need_in-none form s last e f = grind arith

-- reading a byte past ASCII needs at most the code units of the longest scalar
pub full_most : (form : EncodingForm) (g : Grammar) → full_need_in form g ≤ wide_need form
full_most form g = grind arith

-- a report needs at most what a byte past ASCII needs
pub release-full : (form : EncodingForm) (g : Grammar) → release_need_in form g ≤ full_need_in form g
release-full form g = grind arith

pub lacks_small : (form : EncodingForm) (s : DecoderState) (source : List ℕ) (last : Bool) (free : ℕ) → LacksRoom form s source last free →
    free < wide_need form
lacks_small form s source last free l = grind arith
