-- A handler that reads each front of a list gives the events of the list.
use Rattle.std.proofs.Common.{◌≡◌, ℕ, zero, suc, ◌+◌, ◌≤◌, Bool, true, false, cond, List, [], ◌∷◌, ◌++◌, drop, length, None, refl, arith}
use Rattle.std.proofs.{lemmas.Bool.cond_both, lemmas.List.length-drop}
use Rattle.std.specs.Char.{is_ascii}
use Rattle.legacy_base.specs.{declared.results.DecodeEvent.DecodeEvent, Fronts.{Front, reads, malformed, front_length, front_events, reads_or, trail_rule}}
use Rattle.legacy_base.specs.{Fronts.{trail_front, cut}, Laws.IsFrontOf}
use Rattle.legacy_base.proofs.Cuts.{cut_at}
use Rattle.legacy_standard.specs.Queue.{Item, byte, end_of_queue, Handled, continue, finished, error, code_points, code_point, returns, return_or_error}
use Rattle.legacy_standard.specs.Processing.{all_read, Processes}
use Rattle.legacy_standard.proofs.Turns.{Proceeds, steady, at_end, error_at_end, goes_on, error_at, gives}

-- the handler's result for a leading byte and a trailing byte, by their scalars
abbrev pub returns_scalars : {S : Type 0} → S → List ℕ → ℕ → Handled S
returns_scalars initial [] t = return_or_error None t initial
returns_scalars initial (c ∷ cs) t = returns (code_points (c ∷ cs)) initial

module _ {S : Type 0} (handler : S → Item → Handled S) (initial : S) where
  -- the handler reads a front from its first byte
  pub record Reads (bytes : List ℕ) (f : Front) : Type 0 where
    pub go : (place : ℕ) (es : List DecodeEvent) → Proceeds handler all_read initial (place + front_length f) 0 (drop (front_length f) bytes) es →
        Proceeds handler all_read initial place 0 bytes (front_events place f ++ es)

module _ {S : Type 0} {handler : S → Item → Handled S} {initial : S} where
  -- the events of a whole list, if the handler reads each front
  module _ (front : ℕ → List ℕ → Front) (fits : (b : ℕ) (rest : List ℕ) → IsFrontOf (length (b ∷ rest)) ⊥ (front b rest))
      (fronts : (b : ℕ) (rest : List ℕ) → Reads handler initial (b ∷ rest) (front b rest))
      (ends : handler initial end_of_queue ≡ returns finished initial) where
    below : (n place : ℕ) (bytes : List ℕ) → length bytes ≤ n → Proceeds handler all_read initial place 0 bytes (cut front 0 place bytes)
    unfolding cut
    below n place [] h = at_end ends
    below zero place (b ∷ rest) h = absurd (omega arith)
    below (suc n) place (b ∷ rest) h =
        let f = front b rest in
        let some = (fits b rest).some in
        let shorter : length (drop (front_length f) (b ∷ rest)) ≤ n = omega (arith, length-drop (front_length f) (b ∷ rest)) in
        rw (cut_at front place b rest f refl some)
        ((fronts b rest).go place _ (below n (place + front_length f) (drop (front_length f) (b ∷ rest)) shorter))

    pub whole : (bytes : List ℕ) → Processes handler all_read initial bytes (cut front 0 0 bytes)
    whole bytes = steady (below (length bytes) 0 bytes (omega arith))

  -- a front by a test
  pub by_test : {bytes : List ℕ} (t : Bool) (x y : Front) → (t ≡ true → Reads handler initial bytes x) → (t ≡ false → Reads handler initial bytes y) →
      Reads handler initial bytes (cond t x y)
  by_test {bytes} t x y p q = cond_both t x y (Reads handler initial bytes) p q

  -- one byte that gives a code point
  pub one : {b c : ℕ} {rest : List ℕ} → handler initial (byte b) ≡ returns (code_point c) initial → Reads handler initial (b ∷ rest) (reads 1 (c ∷ []))
  one {b} {c} e = record { go = λ place es h. gives (c ∷ []) e h }

  -- one byte that is an error
  pub malformed_one : {b : ℕ} {rest : List ℕ} → handler initial (byte b) ≡ returns error initial → Reads handler initial (b ∷ rest) (malformed 1)
  malformed_one e = record { go = λ place es h. error_at [] e h }

  -- the byte after a leading byte
  module _ {b : ℕ} {s : S} (leads : handler initial (byte b) ≡ returns continue s) where
    pub trailing : {t : ℕ} {rest : List ℕ} (cs : List ℕ) → handler s (byte t) ≡ returns_scalars initial cs t →
        Reads handler initial (b ∷ t ∷ rest) (reads_or 2 cs (trail_rule 1 t))
    trailing (c ∷ cs) e = record { go = λ place es h. goes_on leads (gives (c ∷ cs) e h) }
    trailing {t} [] e = by_test (is_ascii t) (malformed 1) (malformed 2)
        (λ a. record { go = λ place es h. goes_on leads (error_at (t ∷ []) (rw a at e) h) })
        (λ a. record { go = λ place es h. goes_on leads (error_at [] (rw a at e) h) })

    -- the queue ends after the leading byte
    pub lead_alone : handler s end_of_queue ≡ returns error initial → Reads handler initial (b ∷ []) (malformed 1)
    lead_alone ends = record { go = λ place es h. goes_on leads (error_at_end [] ends h) }

    -- a leading byte and the bytes after it
    pub pair : (scalars : ℕ → List ℕ) → handler s end_of_queue ≡ returns error initial →
        ((t : ℕ) → handler s (byte t) ≡ returns_scalars initial (scalars t) t) → (rest : List ℕ) → Reads handler initial (b ∷ rest) (trail_front 1 scalars rest)
    pair scalars ends does [] = lead_alone ends
    pair scalars ends does (t ∷ rest) = trailing (scalars t) (does t)

    -- the byte after two bytes
    pub third_trailing : {t u : ℕ} {r : S} {rest : List ℕ} → handler s (byte t) ≡ returns continue r → (cs : List ℕ) →
        handler r (byte u) ≡ returns_scalars initial cs u → Reads handler initial (b ∷ t ∷ u ∷ rest) (reads_or 3 cs (trail_rule 2 u))
    third_trailing seconds (c ∷ cs) e = record { go = λ place es h. goes_on leads (goes_on seconds (gives (c ∷ cs) e h)) }
    third_trailing {u = u} seconds [] e = by_test (is_ascii u) (malformed 2) (malformed 3)
        (λ a. record { go = λ place es h. goes_on leads (goes_on seconds (error_at (u ∷ []) (rw a at e) h)) })
        (λ a. record { go = λ place es h. goes_on leads (goes_on seconds (error_at [] (rw a at e) h)) })
