-- The greatest pointers that encoders use in accepted indexes.
use Rattle.std.proofs.{Common.{ℕ, ◌<◌, ◌≤◌, Bool, List, length, arith, Option}, lemmas.Option.IfSome_then}
use Rattle.std.specs.Option.{IfSome}
use borrow.Author.Tests.{ltb-true}
use Rattle.legacy_tables.specs.{Indexes.FlatIndexes, TableChecks.AreAccepted, Pointers.{every_pointer, is_shift_jis_pointer, is_jis0208_pointer}}
use Rattle.legacy_tables.specs.Pointers.{big5_pointer_of, index_pointer_of, shift_jis_pointer_of, euc_jp_pointer_of, range_pointer_of}
use Rattle.legacy_tables.proofs.{Accepted.parts, Pointers.{IsChosen, if_some, taken-within, first-taken, big5-taken, range-taken}}

module _ (flat : FlatIndexes) (accepted : AreAccepted flat) (c : ℕ) where
  bound : (may : ℕ → Bool) (index : List ℕ) (o : Option ℕ) (limit : ℕ) → length index ≤ limit → IsChosen may index c o
      → IfSome o (λ p. p < limit)
  bound may index o limit short taken = IfSome_then o (taken-within may index c o taken) (λ p h. omega arith)

  pub big5-bound : IfSome (big5_pointer_of flat.big5 c) (λ p. p < 19782)
  big5-bound = bound _ flat.big5 _ 19782 (parts flat accepted).big5.0 (big5-taken flat.big5 c)

  pub euc-kr-bound : IfSome (index_pointer_of flat.euc_kr c) (λ p. p < 23940)
  euc-kr-bound = bound _ flat.euc_kr _ 23940 (parts flat accepted).euc_kr.0 (first-taken every_pointer flat.euc_kr c)

  pub shift-jis-bound : IfSome (shift_jis_pointer_of flat.jis0208 c) (λ p. p < 11280)
  shift-jis-bound = bound _ flat.jis0208 _ 11280 (parts flat accepted).jis0208.0 (first-taken is_shift_jis_pointer flat.jis0208 c)

  pub gb18030-bound : IfSome (index_pointer_of flat.gb18030 c) (λ p. p < 23940)
  gb18030-bound = bound _ flat.gb18030 _ 23940 (parts flat accepted).gb18030.0 (first-taken every_pointer flat.gb18030 c)

-- bounds by the pointers that the codec may use, and by the last pointer that has a scalar
module _ (c : ℕ) where
  pub euc-jp-bound : (jis0208 : List ℕ) → IfSome (euc_jp_pointer_of jis0208 c) (λ p. p < 8836)
  euc-jp-bound jis0208 =
      if_some (euc_jp_pointer_of jis0208 c) _ (λ p e. ltb-true p 8836 ((first-taken is_jis0208_pointer jis0208 c).chosen p e).0)

  pub range-bound : (ranges : List (ℕ × ℕ)) → IfSome (range_pointer_of ranges c) (λ p. p < 1237576)
  range-bound ranges = if_some (range_pointer_of ranges c) _ (λ p e. (range-taken ranges c p e).1)

pub ruleset bounds = (euc-jp-bound, range-bound)
