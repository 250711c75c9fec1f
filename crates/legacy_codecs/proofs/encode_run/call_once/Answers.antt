use Rattle.std.proofs.Common.{◌≡◌, ℕ, ◌≤◌, List, length, take, refl, arith, append_assoc}
use Rattle.std.proofs.{Math.Nat.le_trans, lemmas.List.{length-take, length-take-le}}
use Rattle.legacy_codecs.proofs.RunDrivers.{room_written, room_report, few_events}
use Rattle.legacy_codecs.proofs.encode_run.call_once.Goals as goal

-- the bytes of a call are within the first `free` ones
few_bytes : (written free : ℕ) (old new : List ℕ) → length new ≡ length (take free old) → length (take written new) ≤ free
few_bytes written free old new e = omega (arith, e, length-take written new, length-take free old)

pub push_items-requires : goal.push_items-requires
push_items-requires g c = room_written _ c.requires.room (few_bytes _ _ _ _ c.step-answer.auto.dst)

pub push_report-requires : goal.push_report-requires
push_report-requires g c =
    room_report _ c.requires.room (few_bytes c.step-answer.result.1 _ _ _ c.step-answer.auto.dst) c.push_items.ensures.len c.push_items.ensures.capacity

pub returns : goal.returns
returns g c =
    let few = few_bytes c.step-answer.result.1 _ _ _ c.step-answer.auto.dst in
    let one = rw (length-take-le c.args.free c.args.output.now c.requires.output) at c.step-answer.ensures.call in
    record {
      call = (c.step-answer.result.0, _, one, c.push_report.ensures.empty, (rw (c.push_report.ensures.items, c.push_items.ensures.items, append_assoc) refl));
      len = few_events _ c.requires.room few c.push_items.ensures.len c.push_report.ensures.len;
      capacity = le_trans c.push_items.ensures.capacity c.push_report.ensures.capacity;
    }
