use Rattle.std.proofs.Common.{[], arith}
use Rattle.legacy_decoder_engine.specs.declared.moves.Fed.TheVariants.{One}
use Rattle.legacy_chinese.{specs.Gb18030Decoder.held_bytes, proofs.Gb18030Held.{feeds, takes_pair}}
use Rattle.legacy_chinese.proofs.gb18030.decoder.Gb18030DecoderDecoderMoves.feed.Goals as goal

pub returns-in-Some : goal.returns-in-Some
returns-in-Some c =
    let tables = c.args.self.now.tables.now in
    let e = c.in-Some.ensures in
    feeds tables c.args.self.now.held c.args.byte (omega arith) c.requires (One c.in-Some.scalar) []
    (rw c.in-First.is (takes_pair tables c.in-First.first c.args.byte c.in-Some.scalar e.value e.scalar))

pub returns-in-Nothing : goal.returns-in-Nothing
returns-in-Nothing c =
    let read = c.read_first-fed in
    feeds c.args.self.now.tables.now c.args.self.now.held c.args.byte (omega arith) c.requires read.result.0 (held_bytes read.result.1)
    (rw c.in-Nothing.is read.ensures)

pub read_next-fed-requires : goal.read_next-fed-requires
read_next-fed-requires c = c.requires

pub returns : goal.returns
returns c =
    let read = c.read_next-fed in
    feeds c.args.self.now.tables.now c.args.self.now.held c.args.byte (omega arith) c.requires read.result.0 (held_bytes read.result.1) read.ensures
