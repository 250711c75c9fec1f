-- The Standard's "EUC-KR decoder". Its state is the EUC-KR leading byte, initially 0x00.
use Rattle.std.specs.Prelude.{ℕ, ◌+◌, ◌-◌, ◌*◌, List, Option, Some, None, if◌then◌else◌}
use Rattle.std.specs.Int.{is_in_range}
use Rattle.std.specs.Option.{option_and_then}
use Rattle.legacy_tables.specs.Indexes.{idx}
use Rattle.legacy_standard.specs.Queue.{Item, Handled, return_or_error, lead_handler}

-- the steps with a leading byte
abbrev pub euc_kr_trailing : List ℕ → ℕ → ℕ → Handled ℕ
euc_kr_trailing index leading b =
    let pointer : Option ℕ = if is_in_range 0x41 0xFE b then Some ((leading - 0x81) * 190 + (b - 0x41)) else None in
    return_or_error (option_and_then (idx index) pointer) b 0x00

-- the handler of the "EUC-KR decoder", by index EUC-KR and the leading byte
unfoldable pub euc_kr_handler : List ℕ → ℕ → Item → Handled ℕ
euc_kr_handler index = lead_handler (euc_kr_trailing index)
