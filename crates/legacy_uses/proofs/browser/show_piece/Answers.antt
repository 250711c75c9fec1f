use Rattle.std.proofs.Common.{◌≡◌, ◌∙◌, ◌≤◌, ◌+◌, take, length, arith}
use Rattle.legacy_uses.proofs.Pages.{grown_front, kept_page}
use Rattle.legacy_uses.proofs.browser.show_piece.Goals as goal

pub returns-clause-text : goal.returns-clause-text
returns-clause-text g c =
    let page = c.args.page.now.items in
    let start = c.len-start.result in
    let written = c.decode_piece-written.result in
    let output = c.decode_piece-written.new.output in
    let end = c.in-Some-checked_add.ensures.1 in
    let is : start ≡ length page = c.len-start.ensures ∙ c.args.page.now.ok.0 in
    let long : start ≤ c.in-Some-checked_add.end = omega (arith, end) in
    let whole : start + written ≤ c.resize.new.self.len =
    omega (arith, end, c.in_ok-resize.ensures.len, c.as_mut_slice.ensures.len, c.decode_piece-written.auto.output, c.decode_piece-written.ensures.within) in
    let front = grown_front page _ _ _ _ is long (c.as_mut_slice.ensures.value ∙ c.in_ok-resize.ensures.items) in (
      take written output,
      c.decode_piece-written.ensures.text,
      c.truncate.ensures.items ∙ kept_page page _ output _ _ start written _ is front c.decode_piece-written.ensures.within whole,
    )
