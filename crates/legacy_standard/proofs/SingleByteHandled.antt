-- The handlers of the single-byte decoder and of x-user-defined give the events of their grammars.
use Rattle.std.proofs.Common.{◌≡◌, ℕ, ◌-◌, List, ◌∷◌, Option, Some, None, refl}
use Rattle.std.specs.{Char.is_ascii, Prelude.option_to_list}
use Rattle.legacy_base.specs.{Fronts.{malformed, reads_or}, SingleByte.single_byte_front, UserDefined.user_defined_front, Grammar.{single_byte, user_defined}}
use Rattle.legacy_base.specs.Grammar.{events_of}
use Rattle.legacy_base.proofs.FrontLaws.{single_byte_front-of, user_defined_front-of}
use Rattle.legacy_tables.specs.Indexes.{idx}
use Rattle.legacy_standard.specs.{Queue.{byte, returns, code_point_or_error}, SingleByte.single_byte_handler, UserDefined.user_defined_handler}
use Rattle.legacy_standard.proofs.{HandledFronts.{Reads, whole, by_test, one, malformed_one}, Turns.IsDecodedBy}

module _ (table : List ℕ) where
  past_ascii : {b : ℕ} {rest : List ℕ} (o : Option ℕ) → single_byte_handler table tt (byte b) ≡ returns (code_point_or_error o) tt →
      Reads (single_byte_handler table) tt (b ∷ rest) (reads_or 1 (option_to_list o) (malformed 1))
  past_ascii None e = malformed_one e
  past_ascii (Some c) e = one e

  front : (b : ℕ) (rest : List ℕ) → Reads (single_byte_handler table) tt (b ∷ rest) (single_byte_front table b rest)
  unfolding single_byte_front single_byte_handler
  front b rest = by_test (is_ascii b) _ _ (λ h. one (rw h refl)) (λ h. past_ascii (idx table (b - 0x80)) (rw h refl))

  pub single_byte_handled : IsDecodedBy (single_byte table) (single_byte_handler table) tt
  unfolding events_of single_byte_handler
  single_byte_handled bytes all = whole (single_byte_front table) (single_byte_front-of table (λ p. absurd p)) front refl bytes

user_defined-reads : (b : ℕ) (rest : List ℕ) → Reads user_defined_handler tt (b ∷ rest) (user_defined_front b rest)
unfolding user_defined_front user_defined_handler
user_defined-reads b rest = by_test (is_ascii b) _ _ (λ h. one (rw h refl)) (λ h. one (rw h refl))

pub user_defined_handled : IsDecodedBy user_defined user_defined_handler tt
unfolding events_of user_defined_handler
user_defined_handled bytes all = whole user_defined_front (λ b rest. user_defined_front-of b (λ p. absurd p) rest) user_defined-reads refl bytes
