use Rattle.legacy_coders.proofs.room.pair_room.Goals as goal

pub returns : goal.returns
returns c = c.in_ok-room.ensures.items_if_clones_equal (λ y same. same)
