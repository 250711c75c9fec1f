-- How most decoders of the WHATWG Encoding Standard read a list of bytes: cut into fronts, from first to last.
use Rattle.std.specs.Prelude.{ℕ, pred, ◌+◌, List, [], ◌∷◌, ◌++◌, map, zero, suc, if◌then◌else◌}
use Rattle.std.specs.Char.{is_ascii}
use Rattle.legacy_base.specs.declared.results.DecodeEvent.{DecodeEvent}
use Rattle.legacy_base.specs.declared.results.DecodeEvent.TheVariants.{Scalar, Bad}

-- the sequence that a list begins with: a number of bytes with their scalars, or a number of malformed bytes
pub data Front : Type 0 where
  reads : ℕ → List ℕ → Front
  malformed : ℕ → Front

-- the number of bytes of a front
abbrev pub front_length : Front → ℕ
front_length (reads n scalars) = n
front_length (malformed n) = n

-- the events of a front that begins at the place
abbrev pub front_events : ℕ → Front → List DecodeEvent
front_events place (reads n scalars) = map Scalar scalars
front_events place (malformed n) = Bad place n ∷ []

-- n bytes with these scalars, or the other front if there are no scalars
abbrev pub reads_or : ℕ → List ℕ → Front → Front
reads_or n [] other = other
reads_or n (c ∷ scalars) other = reads n (c ∷ scalars)

-- The rule of all codecs with leads, if n bytes and then the byte t do not map. An ASCII t is not part of the malformed
-- sequence and is read again; any other t is its last byte.
abbrev pub trail_rule : ℕ → ℕ → Front
trail_rule n t = if is_ascii t then malformed n else malformed (n + 1)

-- The front of n bytes that need a trail, by the scalars of each trail, if any. Without a trail, the n bytes are
-- malformed.
abbrev pub trail_front : ℕ → (ℕ → List ℕ) → List ℕ → Front
trail_front n scalars [] = malformed n
trail_front n scalars (t ∷ rest) = reads_or (n + 1) (scalars t) (trail_rule n t)

-- The events of a list whose first byte is at the place. The first `skip` bytes belong to a front that began earlier.
-- After them each front begins where the previous one ends. `front b rest` is the front of `b ∷ rest`.
unfoldable pub cut : (ℕ → List ℕ → Front) → ℕ → ℕ → List ℕ → List DecodeEvent
cut front skip place [] = []
cut front zero place (b ∷ rest) =
    let f = front b rest in
    front_events place f ++ cut front (pred (front_length f)) (place + 1) rest
cut front (suc skip) place (b ∷ rest) = cut front skip (place + 1) rest
