use Rattle.std.proofs.Common.{rules}
use Rattle.legacy_japanese.proofs.iso_2022_jp.decoder.Iso2022JpDecoder.in_neutral_state.Goals as goal

pub returns-then-matches : goal.returns-then-matches
returns-then-matches c = search rules
