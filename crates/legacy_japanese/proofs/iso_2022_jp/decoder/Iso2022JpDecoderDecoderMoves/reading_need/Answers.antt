use Rattle.std.proofs.Common.{sym}
use Rattle.legacy_japanese.proofs.Iso2022JpNeeds.{covered, read_need-is}
use Rattle.legacy_japanese.proofs.iso_2022_jp.decoder.Iso2022JpDecoderDecoderMoves.reading_need.Goals as goal

pub returns : goal.returns
returns c =
    let self = c.args.self.now in
    let jis0208 = self.tables.now.flat.jis0208 in
    record { units = λ form. sym (read_need-is form jis0208 self.mode self.held c.args._byte); covered = covered jis0208 self.mode self.held }
