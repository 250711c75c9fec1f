use Rattle.std.proofs.Common.{◌≡◌, map, take}
use Rattle.std.specs.Option.{option_map}
use Rattle.legacy_command.specs.GivenTexts.{contents_of}
use Rattle.legacy_command.proofs.host.slices_of.Given as goal

-- the slices so far are those of the files so far
abbrev pub invariant-files : goal.invariant-files
invariant-files g l = contents_of l.slices.items ≡ map (option_map (λ bytes. bytes.items)) (take l.file-index l.files)
