-- The steps of the single-byte decoders agree with their grammar, and their moves hold nothing back.
use Rattle.std.proofs.{Common.{◌≡◌, ℕ, ◌-◌, [], true, refl, arith}, lemmas.List.Elements.All-nil}
use Rattle.legacy_base.specs.{Grammar.{single_byte, events_of}, SingleByte.single_byte_front, States.new_state}
use Rattle.legacy_decoder_engine.{proofs.OneByteShown.one_byte_shown, specs.{Feeding.{HasScalars, fed_of}, Moves.{IsCovered, Feeds}, Shown.IsShown}}
use Rattle.{legacy_decoder_engine.specs.declared.moves.Fed.Fed, legacy_single_byte.specs.SingleByteMachine.{single_byte_first, single_byte_machine}}
use Rattle.legacy_tables.{proofs.{AcceptedTable.table-below, PackedAccepted.entry-narrow}, specs.{AcceptedTables.AcceptedTable, Indexes.idx, Unicode.IsByte}}
use Rattle.legacy_decoder_engine.proofs.Feeding as moves

module _ (table : AcceptedTable) where
  pub shown : IsShown (single_byte table.entries) (single_byte_machine table.entries)
  unfolding single_byte_front
  shown = one_byte_shown (single_byte table.entries) (single_byte_front table.entries) (λ b. idx table.entries (b - 0x80)) true (record {
    profile_is = refl;
    front_is = λ b rest. refl;
    below = λ b byte. grind (arith, entry-narrow table.entries (table-below table.entries table.accepted) (b - 0x80));
  })

  pub covered : IsCovered (new_state (single_byte table.entries))
  covered = moves.covered shown [] refl (All-nil IsByte)

  pub feeds : (b : ℕ) → IsByte b → (fed : Fed) → fed ≡ fed_of (single_byte_first table.entries b) [] b → HasScalars fed →
      Feeds (new_state (single_byte table.entries)) b (new_state (single_byte table.entries)) fed
  feeds b byte fed is scalar = moves.feeds shown [] refl (All-nil IsByte) b byte refl fed [] (grind arith)

  pub ends_none : events_of (single_byte table.entries) [] ≡ []
  ends_none = moves.ends_none shown [] refl (All-nil IsByte) refl refl
