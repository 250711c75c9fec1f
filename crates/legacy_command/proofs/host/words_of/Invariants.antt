use Rattle.std.proofs.Common.{◌≡◌, map, take, string_bytes}
use Rattle.legacy_command.specs.Words.{texts_of}
use Rattle.legacy_command.proofs.host.words_of.Given as goal

-- the words so far are those of the arguments so far
abbrev pub invariant-words : goal.invariant-words
invariant-words g l = texts_of l.words.items ≡ map (λ argument. string_bytes argument) (take l.argument-index l.arguments)
