-- EUC-KR (WHATWG Encoding Standard, "EUC-KR decoder" and "EUC-KR encoder"): leads and trails.
use Rattle.std.specs.Prelude.{ℕ, ◌+◌, ◌-◌, ◌*◌, ◌/◌, ◌%◌, List, [], ◌∷◌, Option, Some, None, if◌then◌else◌}
use Rattle.std.specs.Int.{is_in_range}
use Rattle.legacy_tables.specs.Pointers.{index_pointer_of}
use Rattle.legacy_base.specs.Profile.{is_lead}
use Rattle.legacy_base.specs.EncoderProfile.{EncoderProfile, pointer_code, pair_encoder}
use Rattle.legacy_base.specs.Grammar.{Grammar, lead_trail}

-- the pointer of a lead and a trail, or none if the second byte is no trail
abbrev pub euc_kr_pointer : ℕ → ℕ → Option ℕ
euc_kr_pointer lead trail =
    if is_in_range 0x41 0xFE trail then Some ((lead - 0x81) * 190 + (trail - 0x41))
    else None

-- the codec: its leads are 0x81 to 0xFE, and its index is index EUC-KR
abbrev pub euc_kr : List ℕ → Grammar
euc_kr index = lead_trail is_lead euc_kr_pointer index

-- ---- encoding

-- the lead and the trail of a pointer
abbrev pub euc_kr_bytes : ℕ → List ℕ
euc_kr_bytes p = (p / 190 + 0x81) ∷ (p % 190 + 0x41) ∷ []

-- the code of a scalar
unfoldable pub euc_kr_code : List ℕ → ℕ → Option (List ℕ)
euc_kr_code index = pointer_code euc_kr_bytes (index_pointer_of index)

-- the encoder
abbrev pub euc_kr_encoder : List ℕ → EncoderProfile
euc_kr_encoder index = pair_encoder (euc_kr_code index)
