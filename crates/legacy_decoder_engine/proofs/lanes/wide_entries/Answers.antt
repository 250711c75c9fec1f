use Rattle.std.proofs.Common.{arith, get_or}
use Rattle.legacy_decoder_engine.proofs.LanePlaces.{lane_is}
use Rattle.legacy_decoder_engine.proofs.lanes.wide_entries.Goals as goal

pub bounds-index-places : goal.bounds-index-places
bounds-index-places c = c.requires.within 0 (omega arith)

pub bounds-index-places-2 : goal.bounds-index-places-2
bounds-index-places-2 c = c.requires.within 1 (omega arith)

pub bounds-index-places-3 : goal.bounds-index-places-3
bounds-index-places-3 c = c.requires.within 2 (omega arith)

pub bounds-index-places-4 : goal.bounds-index-places-4
bounds-index-places-4 c = c.requires.within 3 (omega arith)

pub bounds-index-places-5 : goal.bounds-index-places-5
bounds-index-places-5 c = c.requires.within 4 (omega arith)

pub bounds-index-places-6 : goal.bounds-index-places-6
bounds-index-places-6 c = c.requires.within 5 (omega arith)

pub bounds-index-places-7 : goal.bounds-index-places-7
bounds-index-places-7 c = c.requires.within 6 (omega arith)

pub bounds-index-places-8 : goal.bounds-index-places-8
bounds-index-places-8 c = c.requires.within 7 (omega arith)

pub overflow_cast-result : goal.overflow_cast-result
overflow_cast-result c = record { fits = c.if-a-ge65536.false }

pub overflow_cast-result-2 : goal.overflow_cast-result-2
overflow_cast-result-2 c = record { fits = c.if-b-ge65536.false }

pub overflow_cast-result-3 : goal.overflow_cast-result-3
overflow_cast-result-3 c = record { fits = c.if-c-ge65536.false }

pub overflow_cast-result-4 : goal.overflow_cast-result-4
overflow_cast-result-4 c = record { fits = c.if-d-ge65536.false }

pub overflow_cast-result-5 : goal.overflow_cast-result-5
overflow_cast-result-5 c = record { fits = c.if-e-ge65536.false }

pub overflow_cast-result-6 : goal.overflow_cast-result-6
overflow_cast-result-6 c = record { fits = c.if-f-ge65536.false }

pub overflow_cast-result-7 : goal.overflow_cast-result-7
overflow_cast-result-7 c = record { fits = c.if-g-ge65536.false }

pub overflow_cast-result-8 : goal.overflow_cast-result-8
overflow_cast-result-8 c = record { fits = c.if-h-ge65536.false }

pub returns : goal.returns
returns c k h some = lane_is (λ j. get_or c.args.index.now (get_or c.args.places.now j 0) 0) k h
