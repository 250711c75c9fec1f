-- The steps of x-user-defined agree with its grammar, and its moves hold nothing back.
use Rattle.std.proofs.{Common.{◌≡◌, ◌+◌, ◌-◌, [], false, Some, refl, arith}, lemmas.List.Elements.All-nil}
use Rattle.legacy_base.specs.{Grammar.{user_defined, events_of}, States.new_state, UserDefined.user_defined_front}
use Rattle.legacy_decoder_engine.{proofs.OneByteShown.one_byte_shown, specs.{Moves.IsCovered, Shown.IsShown}}
use Rattle.{legacy_miscellaneous.specs.UserDefinedMachine.user_defined_machine, legacy_tables.specs.Unicode.IsByte}
use Rattle.legacy_decoder_engine.proofs.Feeding as moves

pub user_defined_shown : IsShown user_defined user_defined_machine
unfolding user_defined_front
user_defined_shown = one_byte_shown user_defined user_defined_front (λ b. Some (0xF780 + (b - 0x80))) false
    (record { profile_is = refl; front_is = λ b rest. refl; below = λ b byte. omega arith })

pub covered : IsCovered (new_state user_defined)
covered = moves.covered user_defined_shown [] refl (All-nil IsByte)

pub ends_none : events_of user_defined [] ≡ []
ends_none = moves.ends_none user_defined_shown [] refl (All-nil IsByte) refl refl
