-- In the single-byte codecs and x-user-defined, well-formed bytes are encoded as themselves again.
use Rattle.std.proofs.{lemmas.Bool.Decides.nat_tests, Common.{◌≡◌, ◌≢◌, ◌∙◌, ◌⊎◌, inl, inr, ℕ, ◌+◌, ◌-◌, zero, suc, List, [], ◌∷◌, map, refl, sym, arith}}
use Rattle.std.proofs.Common.{Bool, Option, Some, None, true, false, ◌==◌, position}
use Rattle.std.proofs.{lemmas.Bool.false≢true, lemmas.List.Elements.{All-head, All-tail}}
use Rattle.std.specs.Char.{is_ascii}
use Rattle.legacy_base.specs.{declared.results.DecodeEvent.DecodeEvent, declared.results.DecodeEvent.TheVariants.{Scalar, Bad}}
use Rattle.legacy_base.specs.{declared.results.EncodeEvent.TheVariants.Byte, Events.shift, Fronts.{Front, reads, malformed, cut}}
use Rattle.legacy_base.specs.{EncodeEvents.plain_events, SingleByte.{single_byte_front, single_byte_code}, UserDefined.{user_defined_front, user_defined_code}}
use Rattle.legacy_base.specs.{Grammar.events_of, Encoders.{single_byte, user_defined}}
use Rattle.legacy_base.proofs.Cuts.{cut-nil, cut-front}
use Rattle.legacy_tables.specs.{Unicode.{IsByte, AreBytes}, Indexes.idx, TableChecks.{IsAcceptedTable, byte_entries_fault}}
use Rattle.legacy_tables.proofs.{Accepted.or_none, AcceptedTable.position-idx}
use Rattle.legacy_codecs.specs.{Runs.placed, ByteRoundTrips.{BytesRoundTrip, RunsKeepBytes}}
use Rattle.legacy_codecs.proofs.{RunEvents.finished_gives, EncodeRunEvents.finished_encodes}

-- ---- fronts of one byte

-- b is read as a scalar whose code is this byte, or it is malformed by itself
abbrev IsOwnByte : (ℕ → List ℕ → Front) → (ℕ → Option (List ℕ)) → ℕ → Type 0
IsOwnByte front code b =
    (rest : List ℕ) → ((c : ℕ) × (front b rest ≡ reads 1 (c ∷ [])) × (code c ≡ Some (b ∷ []))) ⊎ (front b rest ≡ malformed 1)

cut-scalar : (front : ℕ → List ℕ → Front) (b c : ℕ) (rest : List ℕ) → front b rest ≡ reads 1 (c ∷ []) →
    cut front 0 0 (b ∷ rest) ≡ Scalar c ∷ shift 1 (cut front 0 0 rest)
cut-scalar front b c rest e = grind (arith, nat_tests, cut-front)

cut-malformed : (front : ℕ → List ℕ → Front) (b : ℕ) (rest : List ℕ) → front b rest ≡ malformed 1 →
    cut front 0 0 (b ∷ rest) ≡ Bad 0 1 ∷ shift 1 (cut front 0 0 rest)
cut-malformed front b rest e = grind (arith, nat_tests, cut-front)

-- events that are scalars in a later place are these scalars
unshifted : (k : ℕ) (events : List DecodeEvent) (text : List ℕ) → shift k events ≡ map Scalar text → events ≡ map Scalar text
unshifted k [] [] e = refl
unshifted k [] (c ∷ text) e = cc
unshifted k (x ∷ events) [] e = cc
unshifted k (Scalar d ∷ events) (c ∷ text) e = grind (arith, unshifted k events text)
unshifted k (Bad place n ∷ events) (c ∷ text) e = cc

unplaced : (held : ℕ) (events : List DecodeEvent) (text : List ℕ) → placed held events ≡ map Scalar text → events ≡ map Scalar text
unfolding placed
unplaced held [] [] e = refl
unplaced held [] (c ∷ text) e = cc
unplaced held (x ∷ events) [] e = cc
unplaced held (Scalar d ∷ events) (c ∷ text) e = grind (arith, unplaced held events text)
unplaced held (Bad place n ∷ events) (c ∷ text) e = cc

-- the law of the bytes after b gives that of all
bytes-by : (front : ℕ → List ℕ → Front) (code : ℕ → Option (List ℕ)) (b : ℕ) (bytes text : List ℕ)
    → ((text : List ℕ) → cut front 0 0 bytes ≡ map Scalar text → plain_events code text ≡ map Byte bytes)
    → ((c : ℕ) × (front b bytes ≡ reads 1 (c ∷ [])) × (code c ≡ Some (b ∷ []))) ⊎ (front b bytes ≡ malformed 1)
    → cut front 0 0 (b ∷ bytes) ≡ map Scalar text → plain_events code text ≡ map Byte (b ∷ bytes)
unfolding plain_events
bytes-by front code b bytes [] later (inl own) e = let here = sym (cut-scalar front b own.0 bytes own.1) ∙ e in cc
bytes-by front code b bytes [] later (inr is_malformed) e = let here = sym (cut-malformed front b bytes is_malformed) ∙ e in cc
bytes-by front code b bytes (c ∷ text) later (inr is_malformed) e = let here = sym (cut-malformed front b bytes is_malformed) ∙ e in cc
bytes-by front code b bytes (c ∷ text) later (inl own) e =
    let here = sym (cut-scalar front b own.0 bytes own.1) ∙ e in
    let same : own.0 ≡ c = cc in
    let after : shift 1 (cut front 0 0 bytes) ≡ map Scalar text = cc in
    rw (← same, own.2, later text (unshifted 1 (cut front 0 0 bytes) text after)) refl

plain-bytes : (front : ℕ → List ℕ → Front) (code : ℕ → Option (List ℕ)) → ((b : ℕ) → IsByte b → IsOwnByte front code b)
    → (bytes text : List ℕ) → AreBytes bytes → cut front 0 0 bytes ≡ map Scalar text → plain_events code text ≡ map Byte bytes
unfolding plain_events
plain-bytes front code each [] [] all e = refl
plain-bytes front code each [] (c ∷ text) all e = let none = sym (cut-nil front) ∙ e in cc
plain-bytes front code each (b ∷ bytes) text all e =
    bytes-by front code b bytes text (λ text e. plain-bytes front code each bytes text (All-tail IsByte b bytes all) e)
    (each b (All-head IsByte b bytes all) bytes) e

-- ---- single-byte codecs

past_ascii : (b : ℕ) → is_ascii b ≡ false → 0x80 + (b - 0x80) ≡ b
past_ascii b e = grind (arith, nat_tests)

-- an entry of an accepted table is past ASCII
entry-past_ascii : (place : ℕ) (before entries : List ℕ) → byte_entries_fault place before entries ≡ None
    → (k c : ℕ) → idx entries k ≡ Some c → is_ascii c ≡ false
unfolding byte_entries_fault
entry-past_ascii place before [] e k c h = cc
entry-past_ascii place before (x ∷ entries) e zero c h = grind (arith, nat_tests, or_none)
entry-past_ascii place before (x ∷ entries) e (suc k) c h = grind (arith, or_none, entry-past_ascii (place + 1) (x ∷ before) entries)

module _ (table : List ℕ) (accepted : IsAcceptedTable table) where
  -- the code of an entry is its byte
  entry-code : (p c : ℕ) → idx table p ≡ Some c → single_byte_code table c ≡ Some ((0x80 + p) ∷ [])
  unfolding single_byte_code
  entry-code p c h =
      let some : c ≢ 0 = grind (arith, nat_tests) in
      let found : position (λ e. e == c) table ≡ Some p = (position-idx table accepted c some p).1 h in
      rw (entry-past_ascii 0 [] table accepted p c h, found) refl

  -- b by the test for ASCII and its entry
  single_byte-by : (b : ℕ) (rest : List ℕ) (t : Bool) → is_ascii b ≡ t → (o : Option ℕ) → idx table (b - 0x80) ≡ o
      → ((c : ℕ) × (single_byte_front table b rest ≡ reads 1 (c ∷ [])) × (single_byte_code table c ≡ Some (b ∷ [])))
      ⊎ (single_byte_front table b rest ≡ malformed 1)
  unfolding single_byte_front single_byte_code
  single_byte-by b rest true e o h = inl (b, rw e refl, rw e refl)
  single_byte-by b rest false e None h = inr (rw (e, h) refl)
  single_byte-by b rest false e (Some c) h =
      let same : 0x80 + (b - 0x80) ≡ b = past_ascii b e in
      inl (c, rw (e, h) refl, rw same at (entry-code (b - 0x80) c h))

  single_byte-own : (b : ℕ) → IsByte b → IsOwnByte (single_byte_front table) (single_byte_code table) b
  single_byte-own b small rest = single_byte-by b rest (is_ascii b) refl (idx table (b - 0x80)) refl

-- ---- x-user-defined

user_defined-past : (b : ℕ) → IsByte b → is_ascii b ≡ false → user_defined_code (0xF780 + (b - 0x80)) ≡ Some (b ∷ [])
unfolding user_defined_code
user_defined-past b small e = grind (arith, nat_tests)

user_defined-by : (b : ℕ) (rest : List ℕ) → IsByte b → (t : Bool) → is_ascii b ≡ t
    → ((c : ℕ) × (user_defined_front b rest ≡ reads 1 (c ∷ [])) × (user_defined_code c ≡ Some (b ∷ []))) ⊎ (user_defined_front b rest ≡ malformed 1)
unfolding user_defined_front user_defined_code
user_defined-by b rest small true e = inl (b, rw e refl, rw e refl)
user_defined-by b rest small false e = inl (0xF780 + (b - 0x80), rw e refl, user_defined-past b small e)

user_defined-own : (b : ℕ) → IsByte b → IsOwnByte user_defined_front user_defined_code b
user_defined-own b small rest = user_defined-by b rest small (is_ascii b) refl

-- ---- the law

pub bytes_round_trip : BytesRoundTrip
unfolding events_of
bytes_round_trip (single_byte table) accepted one bytes text all e =
    let a : IsAcceptedTable table = rw accepted.1 (accepted.0.accepted) in
    plain-bytes (single_byte_front table) (single_byte_code table) (single_byte-own table a) bytes text all e
bytes_round_trip user_defined accepted one bytes text all e =
    plain-bytes user_defined_front user_defined_code user_defined-own bytes text all e
bytes_round_trip _ accepted one bytes text all e = absurd (false≢true one)

pub runs_keep_bytes : RunsKeepBytes
runs_keep_bytes codec accepted one bytes text all f answered again =
    let read = unplaced 0 _ text (finished_gives f) in
    sym (finished_encodes again) ∙ bytes_round_trip codec accepted one bytes text all read
