-- What was read of a block with few bytes past ASCII is written, and the next block can be loaded and stored.
use Rattle.std.proofs.Common.{◌≡◌, ◌≢◌, ℕ, ◌+◌, ◌-◌, ◌<◌, ◌≤◌, List, ◌++◌, arith, drop, get_or, length, min, take, IsAscii, [], ◌∷◌}
use Rattle.legacy_text.specs.{declared.destination.Destination.Ghosts, PastAscii.ArePastFrom}
use Rattle.{legacy_base.specs.{Grammar.{Grammar, single_byte}, States.new_state}, legacy_tables.specs.AcceptedTables.AcceptedTable}
use Rattle.{legacy_decoder_engine.{specs.ReadAhead.{Writes, ReadsAhead}, proofs.JoinedReads.reads_front}, std.proofs.lemmas.List.take_more}
use Rattle.legacy_decoder_engine.proofs.WrittenReads.{writes_none, writes_then}
use Rattle.legacy_single_byte.proofs.SingleByteAhead.{ascii_next, ascii_there}

module _ (table : AcceptedTable) where
  abbrev grammar : Grammar
  grammar = single_byte table.entries

  pub record AreMostly {D : Type 0} (T : Ghosts D) (src : List ℕ) (end at past : ℕ) (x y : D) : Type 0 where
    pub within : at ≤ end
    pub few : end ≤ 64
    pub long : at + 64 ≤ length src
    pub room : 70 ≤ T.room y
    pub writes : Writes T grammar (take at src) x y
    pub bits : ArePastFrom past src at

  pub none_mostly : {D : Type 0} (T : Ghosts D) (src : List ℕ) (end past : ℕ) (x : D) → end ≤ 64 → 64 < length src → 70 ≤ T.room x
      → ArePastFrom past src 0 → AreMostly T src end 0 past x x
  none_mostly T src end past x few long room bits = record {
    within = omega arith;
    few = few;
    long = omega (arith, long);
    room = room;
    writes = writes_none T grammar x;
    bits = bits;
  }

  module _ {D : Type 0} {T : Ghosts D} {src : List ℕ} {end at past : ℕ} {x y : D} (are : AreMostly T src end at past x y)
      (had : 70 ≤ T.room x) (source : 64 < length src) (n front : ℕ) (is : n ≡ min front (end - at))
      (ascii : (k : ℕ) → k < front → at + k < 64 → get_or src (at + k) 0 < 128) where
    -- the bytes that are stored as they are
    pub stored_ascii : IsAscii (take n (take (length src - at) (drop at src)))
    stored_ascii = ascii_there src at n front (omega (arith, is, are.within, are.few)) (omega (arith, is)) ascii

    -- the byte after them is past ASCII
    pub past_there : (front < 64 → at + front < 64 → 128 ≤ get_or src (at + front) 0) → at + n ≢ end → 128 ≤ get_or src (at + n) 0
    past_there stops more =
        let all : n ≡ front = omega (arith, is, are.within, more) in
        rw all (stops (omega (arith, is, are.within, are.few, more)) (omega (arith, is, are.within, are.few, more)))

    module _ {z : D} (contents : T.contents z ≡ T.contents y ++ take n (take (length src - at) (drop at src))) (room : T.room z + n ≡ T.room y)
        (loan : T.loan z ≡ T.loan y) where
      writes_front : Writes T grammar (take (at + n) src) x z
      writes_front =
          ascii_next table T src at n front (omega (arith, is, are.within, are.few)) are.long (omega (arith, is)) are.writes ascii contents room loan

      -- ASCII alone
      pub reads_mostly : ReadsAhead T (new_state grammar) src (at + n) x z
      reads_mostly =
          reads_front (omega (arith, is, are.within, are.few, are.long)) writes_front (λ h. omega (arith, is, are.within, are.few, are.room, room))
          (λ h. omega (arith, had))

      pub room_left : 4 ≤ T.room z
      room_left = omega (arith, is, are.within, are.few, are.room, room)

      -- and a byte past ASCII
      module _ {w : D} (put : Writes T grammar (get_or src (at + n) 0 ∷ []) z w) (small : T.room z ≤ T.room w + 3) where
        pub writes_mostly : Writes T grammar (take (at + n + 1) src) x w
        writes_mostly = rw (take_more src (at + n) 0 (omega (arith, is, are.within, are.few, source))) (writes_then T writes_front put)

        pub reads_more_mostly : ReadsAhead T (new_state grammar) src (at + n + 1) x w
        reads_more_mostly =
            reads_front (omega (arith, is, are.within, are.few, source)) writes_mostly
            (λ h. omega (arith, is, are.within, are.few, are.room, room, small)) (λ h. omega (arith, had))

        pub next_mostly : (free next : ℕ) → at + n ≢ end → 64 ≤ length src - (at + n + 1) → free ≡ T.room w → 70 ≤ free → ArePastFrom next src (at + n + 1)
            → AreMostly T src end (at + n + 1) next x w
        next_mostly free next more long is-free enough bits = record {
          within = omega (arith, is, are.within, more);
          few = are.few;
          long = omega (arith, long);
          room = omega (arith, is-free, enough);
          writes = writes_mostly;
          bits = bits;
        }
