use Rattle.std.proofs.Common.{◌≡◌, ◌+◌, ◌++◌, take}
use Rattle.legacy_text.proofs.destination.Destination.put_block.Given as goal

-- the bytes passed are written
abbrev pub invariant-loop-at : goal.invariant-loop-at
invariant-loop-at g l = record {
  contents : g.Self.Destination.contents l.self ≡ g.Self.Destination.contents l.fn.self ++ take l.at l.fn.bytes;
  room : g.Self.Destination.room l.self + l.at ≡ g.Self.Destination.room l.fn.self;
  loan : g.Self.Destination.loan l.self ≡ g.Self.Destination.loan l.fn.self;
}
