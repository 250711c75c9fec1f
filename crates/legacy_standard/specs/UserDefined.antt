-- The Standard's "x-user-defined decoder". It has no state.
use Rattle.std.specs.Prelude.{◌+◌, ◌-◌, if◌then◌else◌}
use Rattle.std.specs.Char.{is_ascii}
use Rattle.legacy_standard.specs.Queue.{Item, byte, end_of_queue, Handled, finished, code_point, returns}

-- the handler of the "x-user-defined decoder"
unfoldable pub user_defined_handler : Unit {0} → Item → Handled (Unit {0})
user_defined_handler d end_of_queue = returns finished tt
user_defined_handler d (byte b) =
    if is_ascii b then returns (code_point b) tt
    else returns (code_point (0xF780 + (b - 0x80))) tt
