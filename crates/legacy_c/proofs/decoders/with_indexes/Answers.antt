use Rattle.std.proofs.Common.{rules}
use Rattle.legacy_japanese.specs.Iso2022JpDecoder.{iso_2022_jp_state}
use Rattle.legacy_c.proofs.SavedStates.{iso_resumed}
use Rattle.legacy_c.proofs.decoders.with_indexes.Goals as goal

pub run_if-requires-in-Some-mode_of : goal.run_if-requires-in-Some-mode_of
run_if-requires-in-Some-mode_of g c =
    iso_resumed iso_2022_jp_state c.resume-decoder.result c.args.tables.now c.args.saved.now c.in-Some.lists.flat.jis0208 c.in-Some-mode_of.mode c.args.held.now
    (search rules) (search rules) (search rules) c.requires.held.0 c.requires.held.1
    c.resume-decoder.ensures.state c.resume-decoder.ensures.none c.resume-decoder.ensures.taken
