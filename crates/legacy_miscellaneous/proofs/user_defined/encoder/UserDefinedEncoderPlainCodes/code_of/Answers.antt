use Rattle.std.proofs.Common.{rules}
use Rattle.legacy_base.specs.UserDefined.{user_defined_code}
use Rattle.legacy_miscellaneous.proofs.user_defined.encoder.UserDefinedEncoderPlainCodes.code_of.Goals as goal

pub returns-then-scalar-le63487 : goal.returns-then-scalar-le63487
unfolding user_defined_code
returns-then-scalar-le63487 c = search rules
