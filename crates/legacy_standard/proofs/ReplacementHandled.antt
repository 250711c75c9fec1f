-- The replacement decoder's handler gives the events of its grammar.
use Rattle.std.proofs.Common.{ℕ, List, [], ◌∷◌, refl, false, one-add}
use Rattle.legacy_base.specs.{Replacement.replacement_events, Grammar.{replacement, events_of}}
use Rattle.legacy_standard.specs.{Processing.{all_read, process}, Replacement.replacement_handler}
use Rattle.legacy_standard.proofs.Turns.{Proceeds, steady, IsDecodedBy, at_end, error_at}

proceeds : (bytes : List ℕ) → Proceeds replacement_handler all_read false 0 0 bytes (replacement_events false bytes)
unfolding replacement_events replacement_handler process
proceeds [] = at_end refl
proceeds (b ∷ []) = error_at [] refl (at_end refl)
proceeds (b ∷ c ∷ rest) = error_at [] refl (record { turns = 1; proceeds = λ more. rw one-add refl })

pub replacement_handled : IsDecodedBy (replacement false) replacement_handler false
unfolding events_of
replacement_handled bytes all = steady (proceeds bytes)
