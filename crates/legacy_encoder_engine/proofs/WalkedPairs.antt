-- The list of codes after a walk over an index.
use Rattle.std.proofs.Common.{◌≡◌, ◌≢◌, ◌∙◌, ℕ, ◌+◌, ◌*◌, ◌<◌, ◌≤◌, List, [], ◌∷◌, length, slice_index, Some, None, option_map}
use Rattle.std.proofs.{Common.arith, lemmas.Bool.Decides.nat_tests}
use Rattle.std.specs.{Option.IfSome}
use Rattle.legacy_tables.specs.{declared.tables.packed.PackedPart.PackedPart, Packed.pointer_of, Unicode.AreScalars, Walks.IsFilled}
use Rattle.legacy_tables.proofs.{PackedAccepted.entry-scalar, PackedPointers.pointer-taken}
use Rattle.legacy_text.specs.UnitCodes.{IsNoSurrogate}
use Rattle.legacy_base.specs.Encoders.{Codec, encoder_profile}
use Rattle.legacy_encoder_engine.specs.{WrittenUnits.two_bytes, CachedPairs.{AreAllPairsOf, IsNoPair, IsOutside, IsRightEntry}}
use Rattle.legacy_encoder_engine.proofs.CachedPairs.{all-right, asked, outside-first}

-- a lead and a trail are the bytes of their number
pub halves : (lead trail : ℕ) → lead < 256 → lead ∷ trail ∷ [] ≡ two_bytes (lead + 256 * trail)
halves lead trail h = grind arith

module _ (codec : Codec) (part : PackedPart) (mark : ℕ → ℕ) (index : List ℕ) (Done : ℕ → Type 0) where
  -- the codes of the scalars with the property are those of their pointers
  pub record GoesByPointers : Type 0 where
    pub scalars : AreScalars index
    pub some : (p : ℕ) → mark p ≢ 0
    pub past : (c : ℕ) → Done c → 0x80 ≤ c
    pub coded : (c p : ℕ) → Done c → pointer_of part index c ≡ Some p → (encoder_profile codec).code c ≡ Some (two_bytes (mark p))
    pub uncoded : (c : ℕ) → Done c → pointer_of part index c ≡ None → IsNoPair codec c

  -- as in a codec that writes the pair of a pointer
  pub by-pairs : (bytes : ℕ → List ℕ) (n : ℕ) → AreScalars index → ((p : ℕ) → mark p ≢ 0) → ((c : ℕ) → Done c → 0x80 ≤ c)
      → ((c : ℕ) → IfSome (pointer_of part index c) (λ p. p < n)) → ((p : ℕ) → p < n → bytes p ≡ two_bytes (mark p))
      → ((c : ℕ) → Done c → (encoder_profile codec).code c ≡ option_map bytes (pointer_of part index c)) → GoesByPointers
  by-pairs bytes n scalars some past bound same code = grind (arith, bound, same, code)

  -- then the entries of these scalars are right
  pub walked-right : GoesByPointers → (entries : List ℕ) → length entries ≡ 65536 → IsFilled part mark index entries
      → (c : ℕ) → c < 65536 → Done c → IsRightEntry codec c (slice_index entries c)
  walked-right by entries all filled c h d =
      let filled_here = filled.each c (omega arith) in grind (arith, filled_here, by.past c d, by.some, by.coded c, by.uncoded c, no_surrogate)
    where
      no_surrogate : (p : ℕ) → pointer_of part index c ≡ Some p → IsNoSurrogate c
      no_surrogate p e high = let t = (pointer-taken part index c).chosen p e in let scalar = entry-scalar index by.scalars p in grind (arith, nat_tests)

-- a list that was filled by a walk for all scalars past ASCII has all pairs after ASCII was looked up
pub all-past-ascii : {codec : Codec} {part : PackedPart} {mark : ℕ → ℕ} {index : List ℕ} → GoesByPointers codec part mark index (λ c. 0x80 ≤ c)
    → (filled new : List ℕ) → length filled ≡ 65536 → IsFilled part mark index filled → length new ≡ length filled
    → ((k : ℕ) → 0 ≤ k → k < 0x80 → IsRightEntry codec k (slice_index new k)) → ((k : ℕ) → IsOutside 0 0x80 k → slice_index new k ≡ slice_index filled k)
    → AreAllPairsOf codec new
all-past-ascii {codec} by filled new long walk same inside outside = all-right codec new (same ∙ long) (λ k h.
    asked (IsRightEntry codec) filled new 0 0x80 k inside outside (λ out. walked-right _ _ _ _ _ by filled long walk k h (outside-first 0x80 k out)))
