-- How `Progress` of two consecutive steps combines into one.
use Rattle.std.proofs.{lemmas.Bool.Decides.nat_tests, Common.{◌≡◌, ◌∙◌, ℕ, ◌+◌, List, [], ◌++◌, drop, refl, sym, ap, arith, append_assoc, length-append, Bool}}
use Rattle.std.proofs.{Common.{false, IsTrue, inl, inr}, lemmas.Bool.false≢true, lemmas.List.{drop-drop, drop-append-le}}
use Rattle.legacy_base.specs.{declared.results.DecodeEvent.DecodeEvent, declared.results.DecoderResult.DecoderResult, Events.shift, Grammar.events_of}
use Rattle.legacy_base.specs.{States.DecoderState, Beginnings.BeginsWith, Calls.{Progress, may_report_end}}
use Rattle.legacy_base.proofs.{Beginnings.{begins_sooner, begins_later, begins_back}, Shifts.{shift-append, shift-zero, shift-shift}}

-- a decoder that does nothing makes progress by 0 bytes
pub stay : (ended : Bool) (s : DecoderState) (source : List ℕ) → Progress ended s source 0 s source []
stay ended s source = record { counts = omega arith; rest = refl; codec = refl; events = λ more h. sym (shift-zero _) }

-- a report at the end is made on a last call, with nothing unread
pub end_report-last : (last : Bool) (answer : DecoderResult) (left : List ℕ) → IsTrue (may_report_end last answer left) → IsTrue last
end_report-last last answer left h = grind arith

module _ {s t : DecoderState} {xs ys : List ℕ} {n : ℕ} {out : List DecodeEvent} where
  -- if `a` implies `b`, progress with the exception `a` implies progress with the exception `b`
  pub at_less : {a b : Bool} → (IsTrue a → IsTrue b) → Progress a s xs n t ys out → Progress b s xs n t ys out
  at_less i h = record { counts = h.counts; rest = h.rest; codec = h.codec; events = λ more e. h.events more (λ l. e (i l)) }

  -- progress without the exception implies progress with it
  pub at_last : {ended : Bool} → Progress false s xs n t ys out → Progress ended s xs n t ys out
  at_last h = at_less (λ f. absurd (false≢true f)) h

  -- the same progress if more source follows
  pub more_follows : (zs : List ℕ) → Progress false s xs n t ys out → Progress false s (xs ++ zs) n t (ys ++ zs) out
  more_follows zs h = grind (arith, nat_tests, length-append, append_assoc, drop-append-le, false≢true)

-- a list of events that begins with `one` and then `two` begins with `two` after `one`
begins_after : (m : ℕ) (one two items : List DecodeEvent) → BeginsWith (one ++ shift m items) (one ++ shift m two) → BeginsWith items two
begins_after m one two items b = begins_back m two items (begins_later one (shift m two) (shift m items) b)

-- one step after another
pub after_that : {ended : Bool} {s t u : DecoderState} {xs ys zs : List ℕ} {m n : ℕ} {one two : List DecodeEvent} →
    Progress ended s xs m t ys one → Progress ended t ys n u zs two → Progress ended s xs (m + n) u zs (one ++ shift m two)
after_that {s} {t} {u} {xs} {ys} {zs} {m} {n} {one} {two} a b = record {
  counts = omega (arith, a.counts, b.counts);
  codec = b.codec ∙ a.codec;
  rest = sym (drop-drop n m (s.held ++ xs)) ∙ ap (drop n) a.rest ∙ b.rest;
  events = λ more h.
      let all = events_of s.grammar (s.held ++ (xs ++ more)) in
      let later = events_of t.grammar (t.held ++ (ys ++ more)) in
      let first : all ≡ one ++ shift m later =
      a.events more (λ l. elim (h l) [ inl z ↦ inl z | inr g ↦ inr (begins_sooner one (shift m two) all g) ]) in
      let second : later ≡ two ++ shift n (events_of u.grammar (u.held ++ (zs ++ more))) =
      b.events more (λ l. elim (h l) [ inl z ↦ inl z | inr g ↦ inr (begins_after m one two later (rw first at g)) ]) in
      first
      ∙ ap (λ l. one ++ shift m l) second
      ∙ ap (λ l. one ++ l) (shift-append m two (shift n (events_of u.grammar (u.held ++ (zs ++ more)))))
      ∙ ap (λ l. one ++ (shift m two ++ l)) (shift-shift m n (events_of u.grammar (u.held ++ (zs ++ more))))
      ∙ sym (append_assoc one (shift m two) (shift (m + n) (events_of u.grammar (u.held ++ (zs ++ more)))));
}
