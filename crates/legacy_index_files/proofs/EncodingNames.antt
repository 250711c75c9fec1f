-- Each encoding is found by its name.
use Rattle.std.proofs.Common.{◌≡◌, ◌↔◌, ◌∙◌, ℕ, List, [], ◌∷◌, Bool, true, Option, Some, sym, subst, find, bytes_eq, arith}
use Rattle.std.proofs.lemmas.Slice.Eq.{bytes_eq-Decides}
use Rattle.legacy_index_files.specs.{declared.encodings.Encoding.Encoding, declared.encodings.TheConstants.ENCODINGS, Encodings.encoding_name}

-- the encoding has this name
abbrev has_name : List ℕ → Encoding → Bool
has_name name e = bytes_eq (encoding_name e) name

-- an item that is found passes the test
found : {A : Type 0} (test : A → Bool) (list : List A) (x : A) → find test list ≡ Some x → test x ≡ true
found test [] x e = cc
found test (y ∷ list) x e = grind (arith, found test list x)

-- no two encodings have the same name
only : (e : Encoding) → find (has_name (encoding_name e)) ENCODINGS ≡ Some e
only e = grind arith

pub named : (name : List ℕ) (result : Option Encoding) → result ≡ find (λ e. bytes_eq (encoding_name e) name) ENCODINGS →
    (e : Encoding) → (result ≡ Some e) ↔ (encoding_name e ≡ name)
named name result is e = (
  (λ h. (bytes_eq-Decides (encoding_name e) name).0 (found (has_name name) ENCODINGS e (sym is ∙ h))),
  (λ h. is ∙ subst (λ n. find (has_name n) ENCODINGS ≡ Some e) h (only e)),
)
