use Rattle.std.proofs.Common.{◌∙◌, sym}
use Rattle.legacy_japanese.proofs.{Iso2022JpFeeding.{feeds, kept}, Iso2022JpNeeds.held_rests}
use Rattle.legacy_japanese.proofs.iso_2022_jp.decoder.Iso2022JpDecoderDecoderMoves.feed.Goals as goal

pub read-fed-requires-clause-sound : goal.read-fed-requires-clause-sound
read-fed-requires-clause-sound c = c.args.self.now.sound

pub read-fed-requires-clause-rests : goal.read-fed-requires-clause-rests
read-fed-requires-clause-rests c =
    let self = c.args.self.now in sym (held_rests self.tables.now.flat.jis0208 self.mode self.held self.sound) ∙ c.requires

pub invariant_of-self : goal.invariant_of-self
invariant_of-self c =
    let self = c.args.self.now in
    record { sound = kept self.tables.now self.mode self.held c.args.byte c.read-fed.result self.sound c.requires c.read-fed.ensures }

pub returns : goal.returns
returns c =
    let self = c.args.self.now in feeds self.tables.now self.mode self.held c.args.byte c.read-fed.result self.sound c.requires c.read-fed.ensures
