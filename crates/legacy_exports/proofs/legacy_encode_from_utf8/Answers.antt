use Rattle.legacy_exports.proofs.legacy_encode_from_utf8.Goals as goal

pub returns-clause-bytes : goal.returns-clause-bytes
returns-clause-bytes c = rw c.new-reading.ensures at c.encode_bytes_or_refuse.ensures.bytes

pub returns-clause-unchanged : goal.returns-clause-unchanged
returns-clause-unchanged c = rw c.new-reading.ensures at c.encode_bytes_or_refuse.ensures.unchanged
