-- What the sequences of a machine yield, which a loop may read ahead.
use Rattle.std.proofs.Common.{rules, ◌≡◌, ℕ, suc, ◌+◌, ◌≤◌, ◌<◌, List, [], ◌∷◌, ◌++◌, length, append_assoc, length-append, refl, arith, true}
use Rattle.std.proofs.{Common.{add-zero}, lemmas.List.Elements.{All-nil, All-cons, All-append}, lemmas.Bool.Decides.nat_tests}
use Rattle.std.specs.Char.{IsScalar, is_ascii}
use Rattle.std.specs.Prelude.{All, map}
use Rattle.legacy_tables.specs.Unicode.{IsByte, AreBytes}
use Rattle.legacy_text.specs.EncodingForm.{total_unit_count}
use Rattle.legacy_base.specs.{declared.results.DecodeEvent.TheVariants.Scalar, Events.shift, Fronts.reads, Grammar.{Grammar, events_of}, States.rests}
use Rattle.legacy_base.specs.{States.{may_hold, state_of}, Lengths.{LengthQuery, query_form, total_need}}
use Rattle.legacy_base.proofs.GrammarLaws.{may_none, rests-none}
use Rattle.legacy_decoder_engine.specs.{ReadAhead.{Yields, HasAscii}, Shown.IsShown, Steps.{hold, finish, DecoderMachine}}
use Rattle.legacy_decoder_engine.proofs.Feeding.{units-total, all_dropped}

pub ascii_is : (b : ℕ) → b < 0x80 → is_ascii b ≡ true
ascii_is b h = grind (arith, nat_tests)

-- after the held-back bytes, the machine holds back each byte but the last, which completes a sequence of the scalars
abbrev Leads : Grammar → DecoderMachine → List ℕ → ℕ → List ℕ → List ℕ → Type 0
Leads g m held b [] cs = IsByte b × (m.to held b ≡ g) × (m.step held b ≡ finish (reads (suc (length held)) cs))
Leads g m held b (next ∷ rest) cs =
    IsByte b × (m.to held b ≡ g) × (m.step held b ≡ hold) × (may_hold g (held ++ b ∷ []) ≡ true) × (rests g (held ++ b ∷ []) ≡ true)
    × Leads g m (held ++ b ∷ []) next rest cs

module _ {g : Grammar} {m : DecoderMachine} (shown : IsShown g m) where
  -- the events of such bytes, and the need that they save
  leads : (held : List ℕ) (b : ℕ) (rest cs : List ℕ) → may_hold g held ≡ true → rests g held ≡ true → AreBytes held → Leads g m held b rest cs
      → ((more : List ℕ) → events_of g (held ++ (b ∷ rest ++ more)) ≡ map Scalar cs ++ shift (length held + length (b ∷ rest)) (events_of g more))
      × ((query : LengthQuery) (n : ℕ)
      → total_need query (state_of g []) n + total_unit_count (query_form query) cs ≤ total_need query (state_of g held) (n + length (b ∷ rest)))
  leads held b [] cs may resting bytes l = (
    λ more.
        let step = rw (l.1, l.2, all_dropped (suc (length held)) held b refl) at ((shown.meets.steps held b may resting).goes_on more) in
        let n : length held + length (b ∷ []) ≡ suc (length held) = omega arith in
        rw n step,
    λ query n.
        let pays = rw (l.1, l.2, all_dropped (suc (length held)) held b refl, add-zero n) at ((shown.needs query).step_pays held b n may resting bytes l.0) in
        omega (arith, pays, units-total (query_form query) cs),
  )
  leads held b (next ∷ rest) cs may resting bytes l =
      let later = leads (held ++ b ∷ []) next rest cs l.3 l.4 (All-append IsByte held (b ∷ []) bytes (All-cons IsByte b [] l.0 (All-nil IsByte))) l.5 in (
        λ more.
            let n : length (held ++ b ∷ []) + length (next ∷ rest) ≡ length held + length (b ∷ next ∷ rest) = omega (arith, length-append held (b ∷ [])) in
            cc (append_assoc held (b ∷ []) (next ∷ rest ++ more), later.0 more),
        λ query n.
            let k = n + length (next ∷ rest) in
            let pays = rw (l.1, l.2, add-zero k) at ((shown.needs query).step_pays held b k may resting bytes l.0) in
            let e : n + length (b ∷ next ∷ rest) ≡ k + 1 = omega arith in
            rw e (omega arith),
      )

  yields : (b : ℕ) (rest cs : List ℕ) → All IsScalar cs → Leads g m [] b rest cs → Yields g (b ∷ rest) cs
  yields b rest cs scalar l =
      let all = leads [] b rest cs (may_none g) (rests-none g) (All-nil IsByte) l in
      let n : 0 + length (b ∷ rest) ≡ length (b ∷ rest) = omega arith in
      record {
        events = λ more. rw n at (all.0 more);
        scalar = scalar;
        lowers = all.1;
      }

  one : (c : ℕ) → IsScalar c → All IsScalar (c ∷ [])
  one c scalar = All-cons IsScalar c [] scalar (All-nil IsScalar)

  pub single_yields : (b c : ℕ) → IsByte b → IsScalar c → m.to [] b ≡ g → m.step [] b ≡ finish (reads 1 (c ∷ [])) → Yields g (b ∷ []) (c ∷ [])
  single_yields b c byte scalar to_is is = yields b [] (c ∷ []) (one c scalar) (byte, to_is, is)

  -- two bytes that give any scalars
  pub pair_gives : (lead trail : ℕ) (cs : List ℕ) → IsByte lead → IsByte trail → All IsScalar cs →
      may_hold g (lead ∷ []) ≡ true → rests g (lead ∷ []) ≡ true → m.to [] lead ≡ g → m.to (lead ∷ []) trail ≡ g →
      m.step [] lead ≡ hold → m.step (lead ∷ []) trail ≡ finish (reads 2 cs) → Yields g (lead ∷ trail ∷ []) cs
  pair_gives lead trail cs byte byte' scalar may resting to_first to_second first second =
      yields lead (trail ∷ []) cs scalar (byte, to_first, first, may, resting, (byte', to_second, second))

  pub pair_yields : (lead trail c : ℕ) → IsByte lead → IsByte trail → IsScalar c → may_hold g (lead ∷ []) ≡ true → rests g (lead ∷ []) ≡ true →
      m.to [] lead ≡ g → m.to (lead ∷ []) trail ≡ g →
      m.step [] lead ≡ hold → m.step (lead ∷ []) trail ≡ finish (reads 2 (c ∷ [])) → Yields g (lead ∷ trail ∷ []) (c ∷ [])
  pair_yields lead trail c byte byte' scalar = pair_gives lead trail (c ∷ []) byte byte' (one c scalar)

  pub three_yields : (a b c x : ℕ) → IsByte a → IsByte b → IsByte c → IsScalar x →
      may_hold g (a ∷ []) ≡ true → may_hold g (a ∷ b ∷ []) ≡ true → rests g (a ∷ []) ≡ true → rests g (a ∷ b ∷ []) ≡ true →
      ((held : List ℕ) (byte : ℕ) → m.to held byte ≡ g) →
      m.step [] a ≡ hold → m.step (a ∷ []) b ≡ hold → m.step (a ∷ b ∷ []) c ≡ finish (reads 3 (x ∷ [])) →
      Yields g (a ∷ b ∷ c ∷ []) (x ∷ [])
  three_yields a b c x byte_a byte_b byte_c scalar may_a may_b rest_a rest_b to_same first second third =
      yields a (b ∷ c ∷ []) (x ∷ []) (one x scalar)
      (byte_a, to_same [] a, first, may_a, rest_a, (byte_b, to_same (a ∷ []) b, second, may_b, rest_b, (byte_c, to_same (a ∷ b ∷ []) c, third)))

  pub four_yields : (a b c d x : ℕ) → IsByte a → IsByte b → IsByte c → IsByte d → IsScalar x →
      may_hold g (a ∷ []) ≡ true → may_hold g (a ∷ b ∷ []) ≡ true → may_hold g (a ∷ b ∷ c ∷ []) ≡ true →
      rests g (a ∷ []) ≡ true → rests g (a ∷ b ∷ []) ≡ true → rests g (a ∷ b ∷ c ∷ []) ≡ true → ((held : List ℕ) (byte : ℕ) → m.to held byte ≡ g) →
      m.step [] a ≡ hold → m.step (a ∷ []) b ≡ hold → m.step (a ∷ b ∷ []) c ≡ hold → m.step (a ∷ b ∷ c ∷ []) d ≡ finish (reads 4 (x ∷ [])) →
      Yields g (a ∷ b ∷ c ∷ d ∷ []) (x ∷ [])
  four_yields a b c d x byte_a byte_b byte_c byte_d scalar may_a may_b may_c rest_a rest_b rest_c to_same first second third fourth =
      let last : Leads g m (a ∷ b ∷ []) c (d ∷ []) (x ∷ []) = (byte_c, to_same (a ∷ b ∷ []) c, third, may_c, rest_c, (byte_d, to_same (a ∷ b ∷ c ∷ []) d, fourth)) in
      yields a (b ∷ c ∷ d ∷ []) (x ∷ []) (one x scalar) (byte_a, to_same [] a, first, may_a, rest_a, (byte_b, to_same (a ∷ []) b, second, may_b, rest_b, last))

  pub has_ascii : ((b : ℕ) → m.to [] b ≡ g) → ((b : ℕ) → b < 0x80 → m.step [] b ≡ finish (reads 1 (b ∷ []))) → HasAscii g
  has_ascii to_is first b h = single_yields b b (omega arith) (search (rules, h)) (to_is b) (first b h)
