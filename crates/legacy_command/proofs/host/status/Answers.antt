use Rattle.legacy_command.proofs.host.status.Goals as goal

-- the words are the arguments
pub returns-clause-usage : goal.returns-clause-usage
returns-clause-usage g c = rw (c.as_slice-words.ensures.value, c.in-Ok.ensures) at c.status_by.ensures.usage
