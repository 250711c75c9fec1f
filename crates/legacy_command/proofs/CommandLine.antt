-- Laws of the words of the command line.
use Rattle.std.proofs.{Math.Seq.take_all, lemmas.Bool.and_parts}
use Rattle.std.proofs.Common.{◌≡◌, ap, ℕ, ◌-◌, take, drop, IsTrue, ◌≤◌, ◌<◌, List, [], ◌∷◌, length, refl, arith}
use Rattle.std.proofs.Common.{Option, None, Some, false}
use Rattle.std.specs.Borrow.{Bor}
use Rattle.legacy_tables.specs.Indexes.{FlatIndexes}
use Rattle.legacy_index_files.specs.declared.codec.Codec.{Codec}
use Rattle.legacy_command.specs.{Words.{texts_of, are_indexes}, GivenTexts.{text_given, AreWellFormed}, Program.{WorksByTexts, WorksWith, with_encoder}}

-- an INDEX without a FILE is not allowed
pub one_word : (words : List (Bor (List ℕ))) → 1 ≤ length words → length words < 2 → false ≡ are_indexes (texts_of words)
one_word [] h k = absurd (omega arith)
one_word (w ∷ []) h k = refl
one_word (v ∷ w ∷ words) h k = absurd (omega arith)

-- the words after the first INDEX and FILE are such words too
pub later_indexes : (words : List (Bor (List ℕ))) → 2 ≤ length words → IsTrue (are_indexes (texts_of words)) → IsTrue (are_indexes (texts_of (drop 2 words)))
later_indexes [] h k = absurd (omega arith)
later_indexes (w ∷ []) h k = absurd (omega arith)
later_indexes (v ∷ w ∷ words) h k = (and_parts _ _ k).1

-- the words after CODEC
pub words_after_codec : (words : List (Bor (List ℕ))) → texts_of (take (length words - 1) (drop 1 words)) ≡ drop 1 (texts_of words)
words_after_codec [] = refl
words_after_codec (w ∷ words) = ap texts_of (take_all _ words (omega arith))

-- a codec that is asked for because it has an encoder has one
pub has_its_encoder : (asked : Option Codec) (codec : Codec) → with_encoder asked ≡ Some codec → with_encoder (Some codec) ≡ Some codec
has_its_encoder None codec e = cc
has_its_encoder (Some known) codec e = grind arith

-- what is done by the words after CODEC is done by the words
pub works_with : {State : Type 0} {coder_of : Codec → FlatIndexes → Option (List ℕ) → Option State} {Work : State → Type 0} (asked : Option Codec)
    (codec : Codec) (words : List (Bor (List ℕ))) (files : List (Option (List ℕ))) → asked ≡ Some codec →
    AreWellFormed (texts_of (take (length words - 1) (drop 1 words))) files
    → WorksByTexts coder_of codec (text_given (texts_of (take (length words - 1) (drop 1 words))) files) Work
    → WorksWith coder_of asked (texts_of words) files Work
works_with asked codec words files named well_formed by =
    record { codec = codec; named = named; well_formed = rw (words_after_codec words) at well_formed; by = rw (words_after_codec words) at by }
