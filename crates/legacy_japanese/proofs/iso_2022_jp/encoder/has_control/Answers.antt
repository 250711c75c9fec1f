use Rattle.std.proofs.{Common.{◌+◌, arith, rules}, lemmas.List.Folds.list_any_more}
use Rattle.legacy_base.specs.Iso2022Jp.{is_mode_control}
use Rattle.legacy_japanese.proofs.iso_2022_jp.encoder.has_control.Goals as goal

pub loop-k-preserved : goal.loop-k-preserved
loop-k-preserved c = grind (arith, list_any_more is_mode_control c.args.bytes.now (c.loop-at.at + c.loop-k.k) 0)

pub loop-at-preserved : goal.loop-at-preserved
loop-at-preserved c = search rules
