-- x-user-defined: its fronts and its codes (WHATWG Encoding Standard, "x-user-defined decoder" and "x-user-defined
-- encoder").
use Rattle.std.specs.Prelude.{ℕ, ◌+◌, ◌-◌, List, [], ◌∷◌, Option, Some, None, false, if◌then◌else◌}
use Rattle.std.specs.Char.{is_ascii}
use Rattle.std.specs.Int.{is_in_range}
use Rattle.legacy_base.specs.Fronts.{Front, reads, cut}
use Rattle.legacy_base.specs.Profile.{Profile, byte_profile}
use Rattle.legacy_base.specs.EncoderProfile.{EncoderProfile, plain_encoder}

-- an ASCII byte is its own scalar, and the bytes from 0x80 on are U+F780 to U+F7FF
unfoldable pub user_defined_front : ℕ → List ℕ → Front
user_defined_front b rest =
    if is_ascii b then reads 1 (b ∷ [])
    else reads 1 ((0xF780 + (b - 0x80)) ∷ [])

-- the decoder
abbrev pub user_defined_profile : Profile
user_defined_profile = record (byte_profile (cut user_defined_front 0 0)) { short_ascii = false }

-- ---- encoding

-- the code of a scalar: ASCII is itself, and U+F780 to U+F7FF are the bytes from 0x80 on
unfoldable pub user_defined_code : ℕ → Option (List ℕ)
user_defined_code c =
    if is_ascii c then Some (c ∷ [])
    else if is_in_range 0xF780 0xF7FF c then Some ((0x80 + (c - 0xF780)) ∷ [])
    else None

-- the encoder
abbrev pub user_defined_encoder : EncoderProfile
user_defined_encoder = plain_encoder user_defined_code 1 (λ n. n) (λ n. n)
