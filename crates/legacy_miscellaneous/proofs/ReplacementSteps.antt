-- The machine of the replacement decoder agrees with its grammar, and its moves hold nothing back.
use Rattle.std.proofs.{Common.{◌≡◌, ℕ, [], Bool, true, refl, arith}, lemmas.{Bool.false≢true, List.Elements.All-nil}}
use Rattle.legacy_base.specs.{Grammar.{replacement, events_of}, Lengths.{LengthQuery, query_form}, Replacement.replacement_events, States.state_of}
use Rattle.legacy_decoder_engine.proofs.{CallUnderWay.same_needs, OneByteShown.{few_held, no_report}, NeedMoves.{no_short_need, cond_most}, Widths.width_of}
use Rattle.legacy_decoder_engine.specs.{Feeding.fed_of, Moves.{IsCovered, Feeds}, Shown.{KeepsNeeds, IsShown}, Steps.Meets, declared.moves.Fed.Fed}
use Rattle.{legacy_miscellaneous.specs.ReplacementMachine.{replacement_first, replacement_machine}, legacy_tables.specs.Unicode.IsByte}
use Rattle.legacy_decoder_engine.proofs.Feeding as moves

module _ (reported : Bool) where
  meets : Meets (replacement reported) (replacement_machine reported)
  unfolding events_of replacement_events
  meets = grind (arith, few_held, no_report, false≢true)

  needs : (query : LengthQuery) → KeepsNeeds query (replacement reported) (replacement_machine reported)
  needs query = let w = width_of (query_form query) in grind (arith, no_short_need, cond_most, false≢true)

  shown : IsShown (replacement reported) (replacement_machine reported)
  shown = grind (arith, meets, needs, false≢true, same_needs)

  pub covered : IsCovered (state_of (replacement reported) [])
  covered = moves.covered shown [] refl (All-nil IsByte)

  pub ends_none : events_of (replacement reported) [] ≡ []
  ends_none = moves.ends_none shown [] refl (All-nil IsByte) refl refl

  pub feeds : (b : ℕ) → IsByte b → (fed : Fed) → fed ≡ fed_of (replacement_first reported) [] b →
      Feeds (state_of (replacement reported) []) b (state_of (replacement true) []) fed
  feeds b byte fed is = moves.feeds shown [] refl (All-nil IsByte) b byte refl fed [] (grind arith)
