use Rattle.std.proofs.Common.{◌≡◌, ◌+◌, ◌-◌, ◌%◌, ◌≤◌, length, take}
use Rattle.{std.specs.List.list_any, legacy_base.specs.Iso2022Jp.is_mode_control}
use Rattle.legacy_japanese.proofs.iso_2022_jp.encoder.has_control.Given as goal

-- whether a control was passed
abbrev pub invariant-loop-at : goal.invariant-loop-at
invariant-loop-at l = (l.at ≤ length l.bytes) × (l.at % 16 ≡ 0) × (l.found ≡ list_any is_mode_control (take l.at l.bytes))

abbrev pub decreases-loop-at : goal.decreases-loop-at
decreases-loop-at l = length l.bytes - l.at

abbrev pub invariant-loop-k : goal.invariant-loop-k
invariant-loop-k l = (l.at + 16 ≤ length l.bytes) × (l.found ≡ list_any is_mode_control (take (l.at + l.k) l.bytes))
