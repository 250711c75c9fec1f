-- Each malformed sequence in the events of a list lies inside the list and has one to four bytes. Each scalar is a
-- Unicode scalar value.
use Rattle.std.proofs.Common.{◌≡◌, ℕ, zero, suc, ◌+◌, ◌≤◌, List, [], ◌∷◌, ◌++◌, length, drop, map, false, cond, Option, Some, None, inl, inr, refl, arith}
use Rattle.std.proofs.{Common.{length-drop, All}, lemmas.Bool.{eqb-true, cond_both, cases_Bool, cases_lt}, lemmas.List.Elements.{All-nil, All-cons, All-append}}
use Rattle.std.proofs.lemmas.List.Elements.{All-head, All-tail, All-drop}
use Rattle.std.specs.{Prelude.{◌==◌, is_some}, Char.IsScalar}
use Rattle.legacy_tables.specs.Unicode.{IsByte, AreBytes, AreScalars}
use Rattle.legacy_base.specs.{declared.results.DecodeEvent.DecodeEvent, declared.results.DecodeEvent.TheVariants.{Scalar, Bad}, Events.{shift_event, shift}}
use Rattle.legacy_base.specs.{Fronts.{Front, reads, malformed, front_length, front_events, cut}, declared.modes.DecoderMode.DecoderMode}
use Rattle.legacy_base.specs.Iso2022Jp.{esc, escape_mode, part_mode}
use Rattle.legacy_base.specs.{Iso2022Jp.{iso_2022_jp_front, iso_2022_jp_events}, Laws.{IsFrontOf, IsEventOf}}
use Rattle.legacy_base.proofs.{Cuts.{cut-nil, cut-front}, FrontLaws.{front_of-malformed, iso_2022_jp_front-of, iso_2022_jp_front-short}}
use Rattle.legacy_base.proofs.{Iso2022JpParts.first_part, Iso2022JpFronts.{step_end, step_one, step_two, step_escape, step_no_escape}}

module _ (Q : Type 0) where
  -- all are events of a list of the given number of bytes
  abbrev AreOf : ℕ → List DecodeEvent → Type 0
  AreOf size events = All (IsEventOf size Q) events

  pub none_of : (size : ℕ) → AreOf size []
  none_of size = All-nil (IsEventOf size Q)

  pub one_malformed : (size n : ℕ) → 1 ≤ n → n ≤ 4 → n ≤ size → AreOf size (Bad 0 n ∷ [])
  one_malformed size n some few within = All-cons (IsEventOf size Q) (Bad 0 n) [] (some, few, omega (arith, within)) (none_of size)

  -- the same for the bytes after the first k
  further : (k size whole : ℕ) → k + size ≤ whole → (events : List DecodeEvent) → AreOf size events → AreOf whole (shift k events)
  further k size whole h [] a = none_of whole
  further k size whole h (x ∷ events) a =
      All-cons (IsEventOf whole Q) (shift_event k x) (shift k events) (one x (All-head (IsEventOf size Q) x events a))
      (further k size whole h events (All-tail (IsEventOf size Q) x events a))
    where
      one : (x : DecodeEvent) → IsEventOf size Q x → IsEventOf whole Q (shift_event k x)
      one (Scalar c) i = i
      one (Bad p n) i = (i.0, i.1, omega (arith, h, i.2))

  scalars_of : (size : ℕ) (scalars : List ℕ) → (Q → AreScalars scalars) → AreOf size (map Scalar scalars)
  scalars_of size [] h = none_of size
  scalars_of size (c ∷ scalars) h =
      All-cons (IsEventOf size Q) (Scalar c) (map Scalar scalars) (λ q. All-head IsScalar c scalars (h q))
      (scalars_of size scalars (λ q. All-tail IsScalar c scalars (h q)))

  front_of : (size : ℕ) (f : Front) → IsFrontOf size Q f → AreOf size (front_events 0 f)
  front_of size (reads n scalars) i = scalars_of size scalars i.scalars
  front_of size (malformed n) i = one_malformed size n i.some i.short i.within

  -- the events of a front, and then those of the bytes after it
  front_and : (size : ℕ) (f : Front) (after : ℕ) (events : List DecodeEvent) → IsFrontOf size Q f → front_length f + after ≤ size → AreOf after events
      → AreOf size (front_events 0 f ++ shift (front_length f) events)
  front_and size f after events i h a =
      All-append (IsEventOf size Q) (front_events 0 f) (shift (front_length f) events) (front_of size f i) (further (front_length f) after size h events a)

  -- ---- lists that are cut into fronts

  module _ (front : ℕ → List ℕ → Front) (fronts : (b : ℕ) (rest : List ℕ) → (Q → AreBytes (b ∷ rest)) → IsFrontOf (length (b ∷ rest)) Q (front b rest)) where
    cut_within : (n : ℕ) (bytes : List ℕ) → length bytes ≤ n → (Q → AreBytes bytes) → AreOf (length bytes) (cut front 0 0 bytes)
    cut_within n [] h are = rw (cut-nil front) (none_of 0)
    cut_within zero (b ∷ rest) h are = absurd (omega arith)
    cut_within (suc n) (b ∷ rest) h are =
        let f = front b rest in
        let i = fronts b rest are in
        let after = drop (front_length f) (b ∷ rest) in
        let d = length-drop (front_length f) (b ∷ rest) in
        let some = i.some in
        let within = i.within in
        rw (cut-front front b rest some)
        (front_and (length (b ∷ rest)) f (length after) (cut front 0 0 after) i (omega (arith, d, within))
        (cut_within n after (omega (arith, d, some, h)) (λ q. All-drop IsByte (front_length f) (b ∷ rest) (are q))))

    pub cut_sound : (bytes : List ℕ) → (Q → AreBytes bytes) → AreOf (length bytes) (cut front 0 0 bytes)
    cut_sound bytes are = cut_within (length bytes) bytes (omega arith) are

  -- ---- ISO-2022-JP

  module _ (jis0208 : List ℕ) (checked : Q → AreScalars jis0208) where
    wider : (size more : ℕ) (f : Front) → size ≤ more → IsFrontOf size Q f → IsFrontOf more Q f
    wider size more f h i = let within = i.within in record { some = i.some; within = omega arith; short = i.short; few = i.few; scalars = i.scalars }

    first_shorter : (bytes : List ℕ) → length (first_part bytes) ≤ length bytes
    first_shorter [] = omega arith
    first_shorter (b ∷ bytes) = let h = first_shorter bytes in grind arith

    module _ (n : ℕ) (below : (mode : DecoderMode) (bytes : List ℕ) → length bytes ≤ n → AreOf (length bytes) (iso_2022_jp_events jis0208 mode bytes)) where
      -- an escape byte that begins no valid escape
      single_of : (mode : DecoderMode) (rest : List ℕ) → length rest ≤ n → part_mode (esc ∷ rest) ≡ None →
          AreOf (length (esc ∷ rest)) (iso_2022_jp_events jis0208 mode (esc ∷ rest))
      single_of mode rest h none =
          rw (step_no_escape jis0208 mode rest none)
          (front_and (length (esc ∷ rest)) (malformed 1) (length rest) (iso_2022_jp_events jis0208 mode rest)
          (front_of-malformed {P = Q} (length (esc ∷ rest)) 1 (omega arith) (omega arith) (omega arith)) (omega arith) (below mode rest h))

      -- an escape byte and any bytes after it
      escape_of : (mode : DecoderMode) (rest : List ℕ) → length rest ≤ n → AreOf (length (esc ∷ rest)) (iso_2022_jp_events jis0208 mode (esc ∷ rest))
      unfolding part_mode
      escape_of mode [] h = single_of mode [] h refl
      escape_of mode (a ∷ []) h = single_of mode (a ∷ []) h refl
      escape_of mode (a ∷ b ∷ rest) h = by_mode (escape_mode a b) refl
        where
          size : ℕ
          size = length (esc ∷ a ∷ b ∷ rest)

          by_mode : (o : Option DecoderMode) → escape_mode a b ≡ o → AreOf size (iso_2022_jp_events jis0208 mode (esc ∷ a ∷ b ∷ rest))
          by_mode None e = single_of mode (a ∷ b ∷ rest) h e
          by_mode (Some next) e =
              let t = is_some (part_mode rest) in
              let bare : AreOf size (cond t (Bad 0 3 ∷ []) []) =
              cond_both t (Bad 0 3 ∷ []) [] (AreOf size) (λ _. one_malformed size 3 (omega arith) (omega arith) (omega arith)) (λ _. none_of size) in
              rw (step_escape jis0208 mode next a b rest e)
              (All-append (IsEventOf size Q) (cond t (Bad 0 3 ∷ []) []) (shift 3 (iso_2022_jp_events jis0208 next rest)) bare
              (further 3 (length rest) size (omega arith) (iso_2022_jp_events jis0208 next rest) (below next rest (omega arith))))

      -- a byte of a body
      module _ (mode : DecoderMode) (b : ℕ) (unescaped : (b == esc) ≡ false) where
        one_of : (rest : List ℕ) (f : Front) → length rest ≤ n → iso_2022_jp_front jis0208 mode b (first_part rest) ≡ f →
            IsFrontOf (suc (length (first_part rest))) Q f → front_length f ≡ 1 → AreOf (length (b ∷ rest)) (iso_2022_jp_events jis0208 mode (b ∷ rest))
        one_of rest f h is i one =
            let shorter = first_shorter rest in
            let all = front_and (length (b ∷ rest)) f (length rest) (iso_2022_jp_events jis0208 mode rest)
            (wider (suc (length (first_part rest))) (length (b ∷ rest)) f (omega arith) i) (omega (arith, one)) (below mode rest h) in
            rw (step_one jis0208 mode b rest f unescaped is one) (rw one at all)

        two_of : (rest : List ℕ) (f : Front) → length rest ≤ n → iso_2022_jp_front jis0208 mode b (first_part rest) ≡ f →
            IsFrontOf (suc (length (first_part rest))) Q f → front_length f ≡ 2 → AreOf (length (b ∷ rest)) (iso_2022_jp_events jis0208 mode (b ∷ rest))
        two_of [] f h is i two = let within = i.within in absurd (omega (arith, within, two))
        two_of (t ∷ rest) f h is i two = elim (cases_Bool (t == esc)) [
          | inl e ↦ let i' = rw e at i in let within = i'.within in absurd (omega (arith, within, two))
          | inr e ↦
              let i' = rw e at i in
              let shorter = first_shorter rest in
              let all = front_and (length (b ∷ t ∷ rest)) f (length rest) (iso_2022_jp_events jis0208 mode rest)
              (wider (suc (suc (length (first_part rest)))) (length (b ∷ t ∷ rest)) f (omega arith) i') (omega (arith, two))
              (below mode rest (omega arith)) in
              rw (step_two jis0208 mode b t rest f unescaped e (rw e at is) two) (rw two at all)
        ]

        body_of : (rest : List ℕ) → length rest ≤ n → AreOf (length (b ∷ rest)) (iso_2022_jp_events jis0208 mode (b ∷ rest))
        body_of rest h =
            let f = iso_2022_jp_front jis0208 mode b (first_part rest) in
            let i = iso_2022_jp_front-of {P = Q} jis0208 checked mode b (first_part rest) in
            let short = iso_2022_jp_front-short jis0208 mode b (first_part rest) in
            let some = i.some in
            elim (cases_lt (front_length f) 2) [
              | inl l ↦ one_of rest f h refl i (omega arith)
              | inr l ↦ two_of rest f h refl i (omega arith)
            ]

    iso_within : (n : ℕ) (mode : DecoderMode) (bytes : List ℕ) → length bytes ≤ n → AreOf (length bytes) (iso_2022_jp_events jis0208 mode bytes)
    iso_within n mode [] h = rw (step_end jis0208 mode) (none_of 0)
    iso_within zero mode (b ∷ bytes) h = absurd (omega arith)
    iso_within (suc n) mode (b ∷ bytes) h = elim (cases_Bool (b == esc)) [
      | inl e ↦ rw (eqb-true b esc e) (escape_of n (iso_within n) mode bytes (omega arith))
      | inr e ↦ body_of n (iso_within n) mode b e bytes (omega arith)
    ]

    pub iso_2022_jp_sound : (mode : DecoderMode) (bytes : List ℕ) → AreOf (length bytes) (iso_2022_jp_events jis0208 mode bytes)
    iso_2022_jp_sound mode bytes = iso_within (length bytes) mode bytes (omega arith)
