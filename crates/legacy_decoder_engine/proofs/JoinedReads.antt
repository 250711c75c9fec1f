-- What is read ahead, one part after another.
use Rattle.std.proofs.Common.{◌≡◌, ℕ, ◌+◌, ◌-◌, ◌<◌, ◌≤◌, List, ◌++◌, length, take, take_all, drop, arith, IsAscii}
use Rattle.std.proofs.{lemmas.List.{take_rest, length-take, length-take-le, length-drop}, Math.Seq.take-add}
use Rattle.{legacy_text.specs.declared.destination.Destination.Ghosts, legacy_base.specs.{Grammar.Grammar, States.{DecoderState, new_state}}}
use Rattle.legacy_decoder_engine.{specs.ReadAhead.{HasAscii, Writes, WritesTo, ReadsTo, ReadsAhead}, proofs.AheadInCalls.reads_nothing}
use Rattle.legacy_decoder_engine.proofs.{CallUnderWay.{same_needs, both_needs}, WrittenReads.{reads_none, writes_none, writes_then, writes_next, writes_ascii}}

module _ {D : Type 0} {T : Ghosts D} {source : List ℕ} {old mid new : D} {r s : ℕ} where
  pub reads_then : {first next last : DecoderState} → ReadsTo T first next source r old mid
      → ReadsTo T next last (take (length source - r) (drop r source)) s mid new → ReadsTo T first last source (r + s) old new
  reads_then {first} {next} {last} a b =
      let writes : WritesTo T first.grammar last.grammar (take (r + s) source) old new =
      rw (take-add r s source, ← take_rest source r) (writes_then T a.writes b.writes) in
      grind (arith, both_needs, length-take, length-drop, reads_nothing b, b.writes.room)

  pub reads_more : {state : DecoderState} → ReadsAhead T state source r old mid → ReadsAhead T state (take (length source - r) (drop r source)) s mid new
      → ReadsAhead T state source (r + s) old new
  reads_more a b = reads_then a b

-- what is read where nothing was read before
pub reads_first : {D : Type 0} {T : Ghosts D} {state : DecoderState} {source : List ℕ} {old mid new : D} {r s : ℕ} → r ≡ 0
    → ReadsAhead T state source r old mid → ReadsAhead T state source s mid new → ReadsAhead T state source s old new
reads_first {source = source} {new = new} {s = s} none a b =
    let all = take_all (length source - 0) source (omega arith) in
    let sum : 0 + s ≡ s = omega arith in
    rw sum at (reads_more {new = new} {s = s} (rw none at a) (rw all b))

module _ {D : Type 0} {T : Ghosts D} {source : List ℕ} {old new : D} {r : ℕ} {g : Grammar} where
  -- the bytes read and the scalars written, with the room left if there are any
  pub reads_front : r ≤ length source → Writes T g (take r source) old new → (0 < r → 3 ≤ T.room new) → (0 < r → 4 ≤ T.room old)
      → ReadsAhead T (new_state g) source r old new
  reads_front within writes slack had = grind (arith, same_needs)

  pub reads_written : r ≤ length source → Writes T g (take r source) old new → 3 ≤ T.room new → 4 ≤ T.room old → ReadsAhead T (new_state g) source r old new
  reads_written within writes slack had = reads_front within writes (λ h. slack) (λ h. had)

  pub reads_ascii : HasAscii g → r ≤ length source → IsAscii (take r source) → T.contents new ≡ T.contents old ++ take r source → T.room new + r ≡ T.room old
      → T.loan new ≡ T.loan old → (0 < r → 3 ≤ T.room new) → ReadsAhead T (new_state g) source r old new
  reads_ascii law within ascii written room loan slack = grind (arith, length-take-le, reads_front, writes_ascii)

pub ruleset turn_by_turn = (reads_written, reads_none, writes_none, writes_next)
