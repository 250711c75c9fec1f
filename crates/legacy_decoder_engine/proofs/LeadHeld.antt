-- The moves of a decoder with leads, by the lead that it holds back.
use Rattle.legacy_base.specs.{States.{state_of, may_hold}, Grammar.{Grammar, events_of}}
use Rattle.legacy_decoder_engine.proofs.{CallUnderWay.same_needs, WrittenReads.writes_none, YieldedForms.{has_ascii, pair_yields, pair_gives, ascii_is}}
use Rattle.legacy_decoder_engine.specs.{declared.moves.Fed.Fed, ReadAhead.{Yields, HasAscii}, Moves.{IsCovered, Feeds, Reports}, Steps.Step, Feeding.Took}
use Rattle.legacy_decoder_engine.specs.{Shown.IsShown, LeadMachines.{two_byte_machine, two_byte_step}, LeadCodecs.{IsLeadCodec, held_bytes, lead_state}}
use Rattle.legacy_tables.specs.{Unicode.{IsByte, AreBytes}, AcceptedTables.AcceptedIndexes, Indexes.FlatIndexes}
use Rattle.std.proofs.Common.{arith, ◌≡◌, ◌≢◌, ◌∙◌, ℕ, List, [], ◌∷◌, Bool, Option, Some, None, is_some, true, false, refl}
use Rattle.std.{proofs.lemmas.List.Elements.{All-nil, All-cons}, specs.Char.IsScalar}
use Rattle.legacy_decoder_engine.proofs.Feeding as feeding

-- ASCII, and a pair that gives one scalar
module _ {grammar : FlatIndexes → Grammar} {is_lead_byte : ℕ → Bool} {first : ℕ → Step} {scalars : FlatIndexes → ℕ → ℕ → List ℕ}
    (is : IsLeadCodec grammar is_lead_byte first scalars) (tables : AcceptedIndexes) where
  pub ascii : HasAscii (grammar tables.flat)
  ascii = has_ascii (is.shown tables.flat tables.accepted) (λ b. refl) (λ b h. is.ascii_first b (ascii_is b h))

  pub pair : (lead trail c : ℕ) → IsByte lead → IsByte trail → IsScalar c → is_lead_byte lead ≡ true → scalars tables.flat lead trail ≡ c ∷ []
      → Yields (grammar tables.flat) (lead ∷ trail ∷ []) (c ∷ [])
  pair lead trail c is_byte is_byte' scalar is_lead e =
      pair_yields (is.shown tables.flat tables.accepted) lead trail c is_byte is_byte' scalar
      (is.may_is tables.flat (lead ∷ []) ∙ is_lead) (is.rests_is tables.flat (lead ∷ [])) refl refl (is.lead_first lead is_lead) (rw e refl)

  -- a pair that gives two scalars
  pub two : (lead trail c d : ℕ) → IsByte lead → IsByte trail → IsScalar c → IsScalar d → is_lead_byte lead ≡ true → scalars tables.flat lead trail ≡ c ∷ d ∷ []
      → Yields (grammar tables.flat) (lead ∷ trail ∷ []) (c ∷ d ∷ [])
  two lead trail c d is_byte is_byte' scalar scalar' is_lead e =
      pair_gives (is.shown tables.flat tables.accepted) lead trail (c ∷ d ∷ []) is_byte is_byte'
      (All-cons IsScalar c (d ∷ []) scalar (All-cons IsScalar d [] scalar' (All-nil IsScalar)))
      (is.may_is tables.flat (lead ∷ []) ∙ is_lead) (is.rests_is tables.flat (lead ∷ [])) refl refl (is.lead_first lead is_lead) (rw e refl)

module _ {L : Type 0} {grammar : FlatIndexes → Grammar} {is_lead_byte : ℕ → Bool} {first : ℕ → Step} {scalars : FlatIndexes → ℕ → ℕ → List ℕ}
    (is : IsLeadCodec grammar is_lead_byte first scalars) {byte : L → ℕ} (leads : (lead : L) → is_lead_byte (byte lead) ≡ true) (tables : AcceptedIndexes) where
  shown : IsShown (grammar tables.flat) (two_byte_machine (grammar tables.flat) first (scalars tables.flat))
  shown = is.shown tables.flat tables.accepted

  may : (held : Option L) → may_hold (grammar tables.flat) (held_bytes byte held) ≡ true
  may held = grind arith

  are_bytes : (held : Option L) → AreBytes (held_bytes byte held)
  are_bytes held = grind (arith, All-nil, All-cons)

  pub covered : (held : Option L) → IsCovered (lead_state grammar byte tables held)
  covered held = feeding.covered shown (held_bytes byte held) (may held) (are_bytes held)

  pub feeds : (held : Option L) (b : ℕ) → IsByte b → (fed : Fed) (kept : List ℕ)
      → Took (two_byte_step first (scalars tables.flat) (held_bytes byte held) b) (held_bytes byte held) b fed kept
      → Feeds (lead_state grammar byte tables held) b (state_of (grammar tables.flat) kept) fed
  feeds held b is_byte fed kept took = feeding.feeds shown _ (may held) (are_bytes held) b is_byte (is.rests_is tables.flat _) fed kept took

  pub ends_none : (held : Option L) → is_some held ≡ false → events_of (grammar tables.flat) (held_bytes byte held) ≡ []
  ends_none held e = grind (arith, shown, may, are_bytes)

  pub ends_some : (held : Option L) → is_some held ≡ true → events_of (grammar tables.flat) (held_bytes byte held) ≢ []
  ends_some held e = grind (arith, shown, may, are_bytes)

  pub reports : (lead : L) → Reports (lead_state grammar byte tables (Some lead)) (lead_state grammar byte tables None) 1 0
  reports lead = feeding.reports_all shown _ (may (Some lead)) (are_bytes (Some lead)) (is.rests_is tables.flat _) (λ e. cc)

pub ruleset moves = (covered, feeds, ends_none, ends_some, reports, same_needs, writes_none)
