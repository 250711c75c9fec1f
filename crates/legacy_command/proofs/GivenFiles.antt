-- Laws of the index files that the program is given.
use Rattle.std.proofs.Common.{◌≡◌, ◌∙◌, ◌⊎◌, ap, inl, inr, ℕ, drop, ◌≤◌, ◌<◌, List, [], ◌∷◌, length, arith, Option, Some, None, refl, sym, subst, if◌then◌else◌}
use Rattle.std.specs.{Borrow.Bor, Prelude.slice_index_or}
use Rattle.legacy_index_files.specs.{declared.index_file.FileIndex.FileIndex, declared.owned_indexes.OwnedIndexes.OwnedIndexes, IndexLine.lines}
use Rattle.legacy_index_files.specs.{IndexTable.first_malformed, IndexTexts.{is_index, no_text, with_text}, OwnedIndexes.HoldsTexts}
use Rattle.legacy_command.specs.{declared.program.Fault.Fault, declared.program.Fault.TheVariants.{Line, Memory}}
use Rattle.legacy_command.specs.{Words.{texts_of, first_index_named}, GivenTexts.{text_given, contents_of, AreWellFormed, IsFirstFault}}

-- with no INDEX and FILE every text is empty
pub few_words : (tables : OwnedIndexes) (words : List (Bor (List ℕ))) (files : List (Option (Bor (List ℕ)))) → length words < 2
    → HoldsTexts no_text tables → HoldsTexts (text_given (texts_of words) (contents_of files)) tables
few_words tables [] files h k = k
few_words tables (w ∷ []) files h k = k
few_words tables (v ∷ w ∷ words) files h k = absurd (omega arith)

-- with no INDEX and FILE there is no malformed line
pub few_well_formed : (words : List (Bor (List ℕ))) (files : List (Option (Bor (List ℕ)))) → length words < 2
    → AreWellFormed (texts_of words) (contents_of files)
few_well_formed [] files h = tt
few_well_formed (w ∷ []) files h = tt
few_well_formed (v ∷ w ∷ words) files h = absurd (omega arith)

-- what is known with one more INDEX and FILE before the others
pub record IsOneMore (words : List (Bor (List ℕ))) (name : FileIndex) (text : Bor (List ℕ)) (later files : List (Option (Bor (List ℕ)))) : Type 0 where
  pub texts : (tables : OwnedIndexes) → HoldsTexts (with_text (text_given (texts_of (drop 2 words)) (contents_of later)) name text.now) tables
      → HoldsTexts (text_given (texts_of words) (contents_of files)) tables
  -- if its file has no malformed line, there is still none
  pub well_formed : first_malformed name 1 (lines text.now) ≡ None → AreWellFormed (texts_of (drop 2 words)) (contents_of later)
      → AreWellFormed (texts_of words) (contents_of files)
  -- if its file has no malformed line, the fault stays the first one
  pub later_fault : (fault : Fault) → first_malformed name 1 (lines text.now) ≡ None
      → (fault ≡ Memory) ⊎ IsFirstFault (texts_of (drop 2 words)) (contents_of later) fault
      → (fault ≡ Memory) ⊎ IsFirstFault (texts_of words) (contents_of files) fault
  -- the fault of a malformed line in its file, whose name is the second word
  pub line_fault : (d : Bor (List ℕ)) (n : ℕ) → first_malformed name 1 (lines text.now) ≡ Some n
      → IsFirstFault (texts_of words) (contents_of files) (Line (slice_index_or words 1 d) n)

more_by : (words : List (Bor (List ℕ))) (name : FileIndex) (text : Bor (List ℕ)) (later files : List (Option (Bor (List ℕ)))) →
    2 ≤ length words → first_index_named (texts_of words) ≡ Some name → files ≡ Some text ∷ later → IsOneMore words name text later files
more_by [] name text later files h n f = absurd (omega arith)
more_by (w ∷ []) name text later files h n f = absurd (omega arith)
more_by (v ∷ w ∷ words) name text later files h n f = record {
  texts = λ tables k.
      let later_texts = text_given (texts_of words) (contents_of later) in
      let P : Option FileIndex → Type 0 = λ o. HoldsTexts (λ other. if is_index o other then text.now else later_texts other) tables in
      rw f (subst P (sym n) k);
  well_formed = λ e k. rw (f, n) (e, k);
  later_fault = λ fault e k. elim k [
    | inl memory ↦ inl memory
    | inr later ↦ rw (f, n) (inr (inr (e, later)))
  ];
  line_fault = λ d line e. rw (f, n) (inl (refl, e));
}

-- the same by what was found: the first index, and the first file with its text
pub one_more : {words : List (Bor (List ℕ))} {name : FileIndex} {text : Bor (List ℕ)} {first : Option (Bor (List ℕ))}
    {later files : List (Option (Bor (List ℕ)))} {found : Option FileIndex}
    → 2 ≤ length words → found ≡ first_index_named (texts_of words) → found ≡ Some name → files ≡ first ∷ later → first ≡ Some text
    → IsOneMore words name text later files
one_more {later = later} h is some f text = more_by _ _ _ later _ h (sym is ∙ some) (f ∙ ap (λ file. file ∷ later) text)
