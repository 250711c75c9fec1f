-- What the single-byte decoders read ahead.
use Rattle.std.proofs.lemmas.List.{take_rest, get_or_past, take_all, take_more, take-take, get_or-take, get_or-drop, length-drop, length-take-le}
use Rattle.std.proofs.lemmas.List.Elements.{All-from_get_or}
use Rattle.std.proofs.Common.{rules, IsAscii, ◌≡◌, ℕ, List, ◌+◌, ◌-◌, ◌≤◌, ◌<◌, ◌^◌, ◌++◌, zero, suc, length, take, drop, get_or, Some, refl, arith, All}
use Rattle.std.{proofs.{lemmas.Bool.Decides.nat_tests, Math.Seq.take-append_seam}, specs.Char.IsScalar}
use Rattle.legacy_decoder_engine.proofs.WrittenReads.{yields_none, yields_more, writes_none, writes_one, writes_next, writes_ascii, short, three_fit}
use Rattle.legacy_decoder_engine.{proofs.WrittenReads.{one_unit, reads_none}, specs.ReadAhead.{Yields, IsSingle, HasAscii, Writes, ReadsAhead}}
use Rattle.legacy_decoder_engine.proofs.{YieldedForms.{single_yields, has_ascii, ascii_is}, JoinedReads.reads_written}
use Rattle.legacy_single_byte.{specs.ByteEntries.{IsByteEntry, AreByteEntries}, proofs.SingleByteShown.shown}
use Rattle.legacy_text.specs.{EncodingForm.{all_code_units, total_unit_count}, declared.destination.Destination.Ghosts, PastAscii.{ArePast, ArePastFrom}}
use Rattle.legacy_tables.{proofs.AcceptedTable.{table-below, table-scalars}, specs.{AcceptedTables.AcceptedTable, Indexes.idx}}
use Rattle.legacy_base.specs.{States.{DecoderState, new_state}, Grammar.single_byte}
use Rattle.legacy_text.{specs.ByteUnits.AreByteScalars, proofs.Ascii.ascii_front}

small : (x : ℕ) → x < 0x80 → IsScalar x
small x h = search rules

-- bytes of the first 64 that are ASCII
pub ascii_there : (source : List ℕ) (at n m : ℕ) → at + n ≤ 64 → n ≤ m → ((k : ℕ) → k < m → at + k < 64 → get_or source (at + k) 0 < 128)
    → IsAscii (take n (take (length source - at) (drop at source)))
ascii_there source at n m few most ascii =
    rw (take_rest source at) (ascii_front (drop at source) n (λ k h. rw (get_or-drop at source k 0) (ascii k (omega arith) (omega arith))))

module _ (table : AcceptedTable) where
  -- the scalar at a place is at most U+FFFF
  pub place_below : (p c : ℕ) → Some c ≡ idx table.entries p → (c < 0x1_0000) × IsScalar c
  place_below p c e = grind (arith, table-below table.entries table.accepted p 0, table-scalars table.entries table.accepted p 0, get_or_past)

  -- the entry of a byte is a scalar up to U+FFFF
  pub entry_below : (b e : ℕ) → IsByteEntry table.entries b e → (e < 0x1_0000) × IsScalar e
  entry_below b e is =
      grind (arith, small, table-below table.entries table.accepted (b - 0x80) 0, table-scalars table.entries table.accepted (b - 0x80) 0, get_or_past)

  -- if the entry of a byte past ASCII is not 0, it is the scalar of the byte
  pub entry_yields : (b e : ℕ) → b < 2 ^ 8 → IsByteEntry table.entries b e → (0x80 ≤ b → e ≡ 0 → ⊥) → IsSingle (single_byte table.entries) b e
  entry_yields b e byte is some =
      let below = entry_below b e is in (below.0, single_yields (shown table) b e byte below.1 refl (grind (arith, nat_tests)))

  -- ---- ASCII, and single bytes past it

  -- the ASCII bytes at a place were written after what was read
  pub ascii_next : {D : Type 0} (T : Ghosts D) (source : List ℕ) (at n m : ℕ) {old mid new : D} → at + n ≤ 64 → at + 64 ≤ length source → n ≤ m →
      Writes T (single_byte table.entries) (take at source) old mid → ((k : ℕ) → k < m → at + k < 64 → get_or source (at + k) 0 < 128) →
      T.contents new ≡ T.contents mid ++ take n (take (length source - at) (drop at source)) → T.room new + n ≡ T.room mid → T.loan new ≡ T.loan mid →
      Writes T (single_byte table.entries) (take (at + n) source) old new
  ascii_next T source at n m {old} {mid} {new} few long most before ascii contents room loan =
      let front = ascii_there source at n m few most ascii in
      let law : HasAscii (single_byte table.entries) = has_ascii (shown table) (λ b. refl) (λ b h. let a = ascii_is b h in rw a refl) in
      let size : length (take n (take (length source - at) (drop at source))) ≡ n = grind (arith, take_rest, length-drop, length-take-le) in
      writes_next T source at n before (writes_ascii T _ mid new _ law front contents (omega (arith, size)) loan)

  -- ---- several bytes at once, by their entries

  module _ (source units : List ℕ) (n : ℕ) (bytes : (k : ℕ) → get_or source k 0 < 2 ^ 8)
      (same : (k : ℕ) → k < n → IsByteEntry table.entries (get_or source k 0) (get_or units k 0)) where
    -- if no entry of a byte past ASCII is 0, the bytes yield them
    bytes_yield : ((k : ℕ) → k < n → 0x80 ≤ get_or source k 0 → get_or units k 0 ≡ 0 → ⊥) → (r : ℕ) → r ≤ n → r ≤ length source → r ≤ length units →
        Yields (single_byte table.entries) (take r source) (take r units)
    bytes_yield some zero few within room = yields_none (single_byte table.entries)
    bytes_yield some (suc r) few within room =
        let one = entry_yields (get_or source r 0) (get_or units r 0) (bytes r) (same r (omega arith)) (some r (omega arith)) in
        let more : suc r ≡ r + 1 = omega arith in
        rw (more, take_more units r 0 (omega arith), take_more source r 0 (omega arith))
        (yields_more _ _ _ _ _ (bytes_yield some r (omega arith) (omega arith) (omega arith)) one.1)

    -- the entries are scalars up to U+FFFF, even those that are 0
    pub units_are_scalars : length units ≡ n → All IsScalar units
    units_are_scalars long = grind (arith, All-from_get_or IsScalar units 0, entry_below)

    -- the bytes were read and their entries were written
    pub reads_entries : {D : Type 0} (T : Ghosts D) (old new : D) → ((k : ℕ) → k < n → 0x80 ≤ get_or source k 0 → get_or units k 0 ≡ 0 → ⊥) → n ≤ length source
        → length units ≡ n → T.contents new ≡ T.contents old ++ all_code_units T.form units → T.room new + total_unit_count T.form units ≡ T.room old
        → T.loan new ≡ T.loan old → total_unit_count T.form units + 3 ≤ T.room old → 4 ≤ T.room old
        → ReadsAhead T (new_state (single_byte table.entries)) source n old new
    reads_entries T old new some within long contents room loan slack enough =
        let yields = bytes_yield some n (omega arith) within (omega arith) in
        let all : take n units ≡ units = take_all n units (omega arith) in
        reads_written within (record { scalars = units; yields = rw all at yields; written = contents; room = room; loan = loan })
        (omega (arith, slack, room)) enough

  -- the entries of all bytes
  pub byte_scalars : (entries : List ℕ) → length entries ≡ 256 → AreByteEntries table.entries entries 256 → AreByteScalars entries
  byte_scalars entries long same = grind (arith, same, entry_below, All-from_get_or (λ c. (c < 0x1_0000) × IsScalar c) entries 0)

-- what was read of bytes with others after them
pub reads_padded : {D : Type 0} {T : Ghosts D} {state : DecoderState} {source padded : List ℕ} {r : ℕ} {old new : D} → r ≤ length source →
    take (length source) padded ≡ source → ReadsAhead T state padded r old new → ReadsAhead T state source r old new
reads_padded {source = source} {padded} {r} within front reads = grind (arith, take-take r (length source) padded)

-- the bits of the first block of a source
pub past_of : (source : List ℕ) (past : ℕ) → ArePast past (take 64 source) → ArePastFrom past source 0
past_of source past are i h =
    let below : i < 64 = omega (arith, h) in
    let place : 0 + i ≡ i = omega arith in rw place (rw (get_or-take 64 source i 0 below) at (are i below))

-- the lemmas for the functions that read blocks
pub ruleset steps = (past_of, writes_none, writes_one, three_fit, short, one_unit, reads_none, reads_padded, take-append_seam, length-take-le)
