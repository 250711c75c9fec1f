use Rattle.legacy_index_files.proofs.packing.pointer_runs.add_runs.Goals as goal

pub returns : goal.returns
returns c = record {
  big5 = c.in_ok-fill_runs.ensures;
  euc_kr = c.in_ok-fill_runs-2.ensures;
  jis0208 = c.in_ok-fill_runs-3.ensures;
  jis0212 = c.in_ok-fill_runs-4.ensures;
  gb18030 = c.in_ok-fill_runs-5.ensures;
}
