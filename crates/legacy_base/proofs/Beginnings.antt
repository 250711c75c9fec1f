-- Laws of `BeginsWith`.
use Rattle.std.proofs.{Common.{◌≡◌, ◌∙◌, ℕ, ◌+◌, ◌<◌, List, [], ◌∷◌, ◌++◌, refl, arith, append_assoc}, lemmas.List.append_cancel_left}
use Rattle.legacy_base.specs.{declared.results.DecodeEvent.DecodeEvent, declared.results.DecodeEvent.TheVariants.{Scalar, Bad}, Beginnings.BeginsWith}
use Rattle.legacy_base.specs.Events.{shift_event, shift}

-- a list that begins with `front ++ more` begins with `front`
pub begins_sooner : {Item : Type 0} (front more items : List Item) → BeginsWith items (front ++ more) → BeginsWith items front
begins_sooner front more items b = (more ++ b.0, b.1 ∙ append_assoc front more b.0)

-- and after `front` the rest begins with `more`
pub begins_later : {Item : Type 0} (front more items : List Item) → BeginsWith (front ++ items) (front ++ more) → BeginsWith items more
begins_later front more items b = (b.0, append_cancel_left front items (more ++ b.0) (b.1 ∙ append_assoc front more b.0))

event_back : (k : ℕ) (x y : DecodeEvent) → shift_event k x ≡ shift_event k y → x ≡ y
event_back k x y h = grind arith

-- if shifted events begin with shifted events, so do the events themselves
pub begins_back : (k : ℕ) (front items : List DecodeEvent) → BeginsWith (shift k items) (shift k front) → BeginsWith items front
begins_back k [] items b = (items, refl)
begins_back k (x ∷ front) [] b = let e = b.1 in cc
begins_back k (x ∷ front) (y ∷ items) b =
    let others : shift k items ≡ shift k front ++ b.0 = let e = b.1 in cc in
    let rest = begins_back k front items (b.0, others) in
    (rest.0, grind (arith, event_back k y x, rest.1, b.1))

-- in a list shifted by k, no malformed sequence begins before place k
pub no_sooner : (k p n : ℕ) (items rest : List DecodeEvent) → p < k → shift k items ≡ Bad p n ∷ rest → ⊥
no_sooner k p n [] rest h e = cc
no_sooner k p n (Scalar c ∷ items) rest h e = cc
no_sooner k p n (Bad q m ∷ items) rest h e = let place : k + q ≡ p = cc in omega arith
