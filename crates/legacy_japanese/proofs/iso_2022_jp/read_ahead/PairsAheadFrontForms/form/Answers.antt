use Rattle.std.proofs.Common.{◌∙◌, refl, sym}
use Rattle.{legacy_decoder_engine.proofs.CommonPairs.common_pair, legacy_base.specs.{Grammar.iso_2022_jp, declared.modes.DecoderMode.TheVariants.TwoByte}}
use Rattle.legacy_japanese.{specs.Iso2022JpAhead.jis_place, proofs.Iso2022JpAhead.placed_scalar}
use Rattle.legacy_japanese.proofs.iso_2022_jp.read_ahead.PairsAheadFrontForms.form.Goals as goal

pub returns : goal.returns
unfolding jis_place
returns c =
    let tables = c.args.self.now.tables in
    let place = c.pair_pointer-pointer.ensures (jis_place 94) (jis_place 1) refl refl in
    common_pair (iso_2022_jp tables.flat.jis0208 TwoByte) c.args.first c.args.second c.of_pair.result c.idx.result c.of_pair.ensures
    (λ x is. placed_scalar tables c.args.first c.args.second x (rw place at (sym c.idx.ensures ∙ is)))
