use Rattle.std.proofs.Common.{◌≡◌, arith, option_map}
use Rattle.legacy_command.proofs.HostLists.{mapped_more}
use Rattle.legacy_command.proofs.host.slices_of.Goals.{in-Some, in-None}
use Rattle.legacy_command.proofs.host.slices_of.Goals as goal

pub files-preserved : goal.files-preserved
files-preserved g c =
    let same : option_map (λ slice. slice.now) c.match-file.slice ≡ option_map (λ bytes. bytes.items) c.file-item.result =
    elim c.match-file.branch [ in-Some w ↦ grind arith | in-None w ↦ grind arith ] in
    rw c.in_ok-push.ensures.items (mapped_more _ _ c.args.files.now c.files.file-index c.file-item.result _ _ c.files-test.true c.file-item.is
    c.files.invariant same)
