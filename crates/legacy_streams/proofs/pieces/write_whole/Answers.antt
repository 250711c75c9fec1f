use Rattle.std.proofs.{Common.{◌≡◌, ℕ, ◌+◌, ◌≤◌, List, Option, drop, length, take, ap, arith, take-add, length-drop}, KnownBytes.{Appends-kept, Appends-trans}}
use Rattle.std.{proofs.lemmas.List.take_all, specs.Io.KnownBytes.Appends}
use Rattle.legacy_streams.proofs.pieces.write_whole.Goals.{in-Ok, in-Err+else-ne}
use Rattle.legacy_streams.proofs.pieces.write_whole.Goals as goal

-- what was written of the rest is within the bytes
within_bytes : {written count : ℕ} (bytes : List ℕ) {rest : List ℕ} → rest ≡ drop written bytes → written ≤ length bytes → count ≤ length rest →
    written + count ≤ length bytes
within_bytes {written} bytes e before h = omega (arith, ap length e, length-drop written bytes)

-- a front of the bytes was written, and then a front of the rest
more_written : (old mid new : Option (List ℕ)) (written count : ℕ) (bytes : List ℕ) {rest : List ℕ} → rest ≡ drop written bytes
    → Appends old mid (take written bytes) → Appends mid new (take count rest) → Appends old new (take (written + count) bytes)
more_written old mid new written count bytes e p q = rw (take-add written count bytes) (Appends-trans old mid new _ _ p (rw e at q))

-- all bytes were written
all_written : (old new : Option (List ℕ)) (written : ℕ) (bytes : List ℕ) → written ≡ length bytes → Appends old new (take written bytes) → Appends old new bytes
all_written old new written bytes e p = rw (take_all written bytes (omega arith)) at p

pub writes-preserved : goal.writes-preserved
writes-preserved g c =
    let sent = c.writes.invariant.sent in
    let rest = c.rest_of.ensures in
    elim c.match-write.branch [
      | in-Ok w ↦ rw w.written-is (record {
        within = within_bytes _ rest c.writes.invariant.within w.in-Ok.ensures.bound;
        sent = more_written _ _ _ _ _ _ rest sent w.in-Ok.ensures.bytes;
      })
      | in-Err+else-ne w ↦ rw w.written-is (record { within = c.writes.invariant.within; sent = Appends-kept _ _ _ _ sent w.in-Err.ensures.bytes })
    ]

pub returns-then-written-bytes-clause-ok : goal.returns-then-written-bytes-clause-ok
returns-then-written-bytes-clause-ok g c = all_written _ _ _ _ c.if-written-bytes.true c.writes.invariant.sent
