use Rattle.std.proofs.Common.{◌≡◌, ◌∙◌, ◌<◌, ◌++◌, List, [], ◌∷◌, Option, Some, None, true, false, drop, length, refl, sym, ap, arith}
use Rattle.std.proofs.{lemmas.Iterator.items_from_collect, lemmas.Iterator.Adapters.YieldsList-from_vec}
use Rattle.std.specs.{Prelude.IsSome, Option.option_to_list, Vec.Iter.{into_iter_items, into_iter_len}}
use Rattle.legacy_command.proofs.arguments.after_name.Goals as goal

-- the elements after the first one
after_first : {X : Type 0} (o : Option X) (old new : List X) → old ≡ option_to_list o ++ new → (0 < length old → IsSome o) → new ≡ drop 1 old
after_first (Some x) old new e h = rw e refl
after_first None [] new e h = sym e
after_first None (x ∷ old) new e h = absurd (let no : false ≡ true = h (omega arith) in cc)

pub returns : goal.returns
returns g c =
    let old = c.args.all in
    let new = c.next-name.new.self in
    let before : into_iter_len old ≡ length (into_iter_items old) = old.rest.ok.0 in
    let after : into_iter_len new ≡ length (into_iter_items new) = new.rest.ok.0 in
    let some : 0 < length (into_iter_items old) → IsSome c.next-name.result = λ h. c.next-name.ensures.variant.1 (rw before h) in
    let rest : into_iter_items new ≡ drop 1 (into_iter_items old) = after_first _ _ _ c.next-name.ensures.items some in
    items_from_collect _ c.collect.ensures.ran (YieldsList-from_vec (drop 1 (into_iter_items old)) rest (after ∙ ap length rest))
