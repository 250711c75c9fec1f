-- The Standard's "EUC-JP decoder". Its state is EUC-JP jis0212, initially false, and the EUC-JP leading byte, initially
-- 0x00.
use Rattle.std.specs.Prelude.{ℕ, ◌+◌, ◌-◌, ◌*◌, ◌==◌, ◌||◌, ◌&&◌, not, Bool, true, false, List, Option, None, if◌then◌else◌}
use Rattle.std.specs.Int.{is_in_range}
use Rattle.std.specs.Char.{is_ascii}
use Rattle.legacy_tables.specs.Indexes.{idx}
use Rattle.legacy_standard.specs.Queue.{Item, byte, end_of_queue, Handled, continue, finished, error, code_point, returns, return_or_error}

-- the state of the "EUC-JP decoder"
pub record EucJp : Type 0 where
  pub jis0212 : Bool
  pub leading : ℕ

-- the state with these two values
abbrev pub euc_jp_state : Bool → ℕ → EucJp
euc_jp_state jis0212 leading = record { jis0212 = jis0212; leading = leading }

-- the state before the first byte
abbrev pub euc_jp_initial : EucJp
euc_jp_initial = euc_jp_state false 0x00

-- the steps with a leading byte, after those for 0x8E and 0x8F
abbrev pub euc_jp_trailing : List ℕ → List ℕ → EucJp → ℕ → Handled EucJp
euc_jp_trailing jis0208 jis0212 d b =
    let code_point : Option ℕ =
    if is_in_range 0xA1 0xFE d.leading && is_in_range 0xA1 0xFE b
    then idx (if d.jis0212 then jis0212 else jis0208) ((d.leading - 0xA1) * 94 + (b - 0xA1)) else None in
    return_or_error code_point b (euc_jp_state false 0x00)

-- the handler of the "EUC-JP decoder", by index jis0208, index jis0212 and the state
unfoldable pub euc_jp_handler : List ℕ → List ℕ → EucJp → Item → Handled EucJp
euc_jp_handler jis0208 jis0212 d end_of_queue =
    if not (d.leading == 0x00) then returns error (euc_jp_state d.jis0212 0x00)
    else returns finished d
euc_jp_handler jis0208 jis0212 d (byte b) =
    if d.leading == 0x8E && is_in_range 0xA1 0xDF b then returns (code_point (0xFF61 + (b - 0xA1))) (euc_jp_state d.jis0212 0x00)
    else if d.leading == 0x8F && is_in_range 0xA1 0xFE b then returns continue (euc_jp_state true b)
    else if not (d.leading == 0x00) then euc_jp_trailing jis0208 jis0212 d b
    else if is_ascii b then returns (code_point b) d
    else if (b == 0x8E || b == 0x8F) || is_in_range 0xA1 0xFE b then returns continue (euc_jp_state d.jis0212 b)
    else returns error d
