use Rattle.{std.proofs.Common.arith, legacy_chinese.proofs.FourPlaces.{lead_read, digit_read}}
use Rattle.legacy_chinese.proofs.gb18030.four_places.four_pointer.Goals as goal

pub returns-clause-place : goal.returns-clause-place
returns-clause-place c = grind (arith, lead_read, digit_read)

pub returns-clause-small : goal.returns-clause-small
returns-clause-small c =
    let place = returns-clause-place c in
    omega (
      arith,
      place,
      lead_read c.args.first (omega arith),
      digit_read c.args.second (omega arith),
      lead_read c.args.third (omega arith),
      digit_read c.args.fourth (omega arith),
    )
