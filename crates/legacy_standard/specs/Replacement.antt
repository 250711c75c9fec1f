-- The Standard's "replacement decoder". Its state is replacement error returned, initially false.
use Rattle.std.specs.Prelude.{Bool, true, not, if◌then◌else◌}
use Rattle.legacy_standard.specs.Queue.{Item, byte, end_of_queue, Handled, finished, error, returns}

-- the handler of the "replacement decoder", by replacement error returned
unfoldable pub replacement_handler : Bool → Item → Handled Bool
replacement_handler error_returned end_of_queue = returns finished error_returned
replacement_handler error_returned (byte b) =
    if not error_returned then returns error true
    else returns finished error_returned
