use Rattle.std.proofs.{Common.{◌≡◌, ◌∙◌, ◌++◌, List, ℕ, length, ap₂, sym, arith}, lemmas.{List.take_all, Simd.length-chunk}, Math.Seq.take-add}
use lib.Lanes.{chunk}
use Rattle.legacy_text.proofs.Ascii.{put_front}
use Rattle.legacy_decoder_engine.proofs.picks.copy_sixteen.Goals as goal

pub returns : goal.returns
returns c =
    let at = c.args.at in
    let src = c.args.src.now in
    let part = chunk at 16 src in
    let long : length part ≡ 16 = length-chunk at 16 src c.requires.source in
    put_front at 16 c.args.padded.now part (omega arith) (omega arith)
    ∙ ap₂ (λ (a b : List ℕ). a ++ b) c.requires.before (take_all 16 part (omega arith)) ∙ sym (take-add at 16 src)
