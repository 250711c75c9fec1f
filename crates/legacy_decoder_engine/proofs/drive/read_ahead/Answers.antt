use Rattle.std.proofs.Common.{add-zero}
use Rattle.legacy_decoder_engine.proofs.{AheadInCalls.{left_malformed}, WrittenReads.{reads_none}}
use Rattle.legacy_decoder_engine.proofs.drive.read_ahead.Goals as goal

pub returns-then-begins_malformed-clause-read : goal.returns-then-begins_malformed-clause-read
returns-then-begins_malformed-clause-read g c = reads_none g.T.Destination _ _ _

pub returns-then-begins_malformed-clause-malformed : goal.returns-then-begins_malformed-clause-malformed
returns-then-begins_malformed-clause-malformed g c = λ e. c.begins_malformed.ensures c.if-begins_malformed.true

pub returns-then-read-gt0-clause-read : goal.returns-then-read-gt0-clause-read
returns-then-read-gt0-clause-read g c = c.read_common-read.ensures.ahead

pub returns-then-read-gt0-clause-malformed : goal.returns-then-read-gt0-clause-malformed
returns-then-read-gt0-clause-malformed g c =
    λ e. rw add-zero at (left_malformed c.args.src.now c.read_common-read.result (c.begins_malformed-then-read-gt0.ensures e))

pub returns-else-read-gt0-clause-read : goal.returns-else-read-gt0-clause-read
returns-else-read-gt0-clause-read g c = c.read_common-read.ensures.ahead
