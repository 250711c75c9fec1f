-- The Standard's "single-byte decoder". It has no state.
use Rattle.std.specs.Prelude.{ℕ, ◌-◌, List, if◌then◌else◌}
use Rattle.std.specs.Char.{is_ascii}
use Rattle.legacy_tables.specs.Indexes.{idx}
use Rattle.legacy_standard.specs.Queue.{Item, byte, end_of_queue, Handled, finished, code_point, returns, code_point_or_error}

-- the handler of the "single-byte decoder", by the index of the encoding
unfoldable pub single_byte_handler : List ℕ → Unit {0} → Item → Handled (Unit {0})
single_byte_handler index d end_of_queue = returns finished tt
single_byte_handler index d (byte b) =
    if is_ascii b then returns (code_point b) tt
    else returns (code_point_or_error (idx index (b - 0x80))) tt
