use Rattle.std.{proofs.Common.{◌≡◌, false, refl, arith}, specs.Char.is_ascii_digit}
use Rattle.legacy_chinese.proofs.gb18030.decoder.read_fourth.Goals as goal

pub returns-then-is_none : goal.returns-then-is_none
returns-then-is_none c =
    let not_digit : is_ascii_digit c.args.byte ≡ false = grind (arith, c.new.ensures, c.is_none.ensures) in
    rw not_digit (record { answer = c.lead_alone.ensures; holds = refl; scalar = rw c.lead_alone.ensures tt })
