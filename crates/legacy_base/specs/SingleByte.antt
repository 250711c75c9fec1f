-- The single-byte codecs: their fronts and codes (WHATWG Encoding Standard, "single-byte decoder" and "single-byte
-- encoder").
use Rattle.std.specs.Prelude.{ℕ, ◌+◌, ◌-◌, List, [], ◌∷◌, Option, ◌==◌, if◌then◌else◌, option_to_list, position}
use Rattle.std.specs.Char.{is_ascii}
use Rattle.legacy_base.specs.Fronts.{Front, reads, malformed, reads_or, cut}
use Rattle.legacy_tables.specs.Indexes.{idx}
use Rattle.legacy_base.specs.Profile.{Profile, byte_profile}
use Rattle.legacy_base.specs.EncoderProfile.{EncoderProfile, plain_encoder, pointer_code}

-- an ASCII byte is its own scalar, and a byte from 0x80 on gives its entry in the table of 128 scalars
unfoldable pub single_byte_front : List ℕ → ℕ → List ℕ → Front
single_byte_front table b rest =
    if is_ascii b then reads 1 (b ∷ [])
    else reads_or 1 (option_to_list (idx table (b - 0x80))) (malformed 1)

-- the decoder
abbrev pub single_byte_profile : List ℕ → Profile
single_byte_profile table = byte_profile (cut (single_byte_front table) 0 0)

-- ---- encoding

-- the code of a scalar: ASCII is itself, and another scalar is the byte whose entry it is
unfoldable pub single_byte_code : List ℕ → ℕ → Option (List ℕ)
single_byte_code table = pointer_code (λ p. (0x80 + p) ∷ []) (λ c. position (λ entry. entry == c) table)

-- the encoder
abbrev pub single_byte_encoder : List ℕ → EncoderProfile
single_byte_encoder table = plain_encoder (single_byte_code table) 1 (λ n. n) (λ n. n)
