use Rattle.legacy_miscellaneous.proofs.utf16.unit_blocks.Units.read_groups.Goals as goal

pub are_below-requires-clause-some : goal.are_below-requires-clause-some
are_below-requires-clause-some g c = c.requires.some

pub are_below-requires-clause-source : goal.are_below-requires-clause-source
are_below-requires-clause-source g c = c.requires.source

pub are_below-requires-2-clause-some : goal.are_below-requires-2-clause-some
are_below-requires-2-clause-some g c = c.requires.some

pub are_below-requires-2-clause-source : goal.are_below-requires-2-clause-source
are_below-requires-2-clause-source g c = c.requires.source

pub returns-then-are_below : goal.returns-then-are_below
returns-then-are_below g c = c.read_blocks.ensures

pub read_eights-requires-clause-source : goal.read_eights-requires-clause-source
read_eights-requires-clause-source g c = c.requires.source

pub read_eights-requires-clause-short : goal.read_eights-requires-clause-short
read_eights-requires-clause-short g c = λ h. c.are_below-2.ensures c.if-are_below-2.true

pub read_eights-requires-clause-room : goal.read_eights-requires-clause-room
read_eights-requires-clause-room g c = λ h. c.requires.room

pub returns-then-are_below-2 : goal.returns-then-are_below-2
returns-then-are_below-2 g c = c.read_eights.ensures

pub read_eights-requires-2-clause-source : goal.read_eights-requires-2-clause-source
read_eights-requires-2-clause-source g c = c.requires.source

pub read_eights-requires-2-clause-short : goal.read_eights-requires-2-clause-short
read_eights-requires-2-clause-short g c = λ h. cc

pub read_eights-requires-2-clause-room : goal.read_eights-requires-2-clause-room
read_eights-requires-2-clause-room g c = λ h. c.requires.room

pub returns : goal.returns
returns g c = c.read_eights-2.ensures
