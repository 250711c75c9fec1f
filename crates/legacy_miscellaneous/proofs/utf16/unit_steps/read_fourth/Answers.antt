use Rattle.std.{proofs.Common.{◌≡◌, ◌∙◌, false, refl, arith}, specs.Char.Utf16.is_low_surrogate}
use Rattle.{legacy_base.specs.Utf16.unit_of, legacy_miscellaneous.proofs.Utf16Held.unit_bytes}
use Rattle.legacy_miscellaneous.proofs.utf16.unit_steps.read_fourth.Goals as goal

pub returns : goal.returns
returns c =
    let be = c.args.big_endian in
    let third = c.args.third in
    let not_low : is_low_surrogate (unit_of be third.byte c.args.byte) ≡ false = rw (c.is_low.ensures, c.unit-unit.ensures) at c.if-is_low.false in
    let holds = rw c.unit-unit.ensures at (c.hold_unit.ensures be) in
    rw not_low (record { answer = refl; holds = holds ∙ unit_bytes be third.byte c.args.byte third.is_byte (omega arith); scalar = tt })
