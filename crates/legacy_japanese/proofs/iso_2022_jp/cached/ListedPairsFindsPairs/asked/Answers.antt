use Rattle.std.proofs.Common.{arith}
use Rattle.legacy_japanese.proofs.iso_2022_jp.cached.ListedPairsFindsPairs.asked.Goals as goal

pub returns-then-entry-eq0 : goal.returns-then-entry-eq0
returns-then-entry-eq0 c =
    c.asked_past_pairs.ensures c.args.self.now.found.tables.now.flat (c.entry_of-entry.ensures.whole (omega (arith, c.if-c-gt65535.false)) c.if-entry-eq0.true)
