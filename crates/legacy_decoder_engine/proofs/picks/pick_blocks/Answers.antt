use Rattle.std.proofs.lemmas.List.{take_rest}
use Rattle.std.proofs.{Common.{◌≡◌, ◌∙◌, length, take, drop, ap, sym, arith}, lemmas.List.length-take-le}
use Rattle.legacy_decoder_engine.proofs.{LaneUnits.{picked_more, shorter_front}}
use Rattle.legacy_decoder_engine.proofs.picks.pick_blocks.Goals.{then-rest-ge72, else-rest-ge72}
use Rattle.legacy_decoder_engine.proofs.picks.pick_blocks.Goals as goal

pub loop-left-preserved : goal.loop-left-preserved
loop-left-preserved g c =
    let src = c.args.src.now in
    let l = c.loop-left in
    let rest = drop l.at src in
    let is = take_rest src l.at in
    let all = ap length is in
    elim c.if-rest-ge72.branch [
      | then-rest-ge72 w ↦
          let e = w.pick_block.ensures in
          let forms = picked_more l.count w.pick_block.result.0 l.at _ l.codes w.pick_block.new.codes src _ l.invariant.forms e.forms
          (ap (take w.pick_block.result.1) is) in
          rw (w.codes-is, w.next-is) (record { room = omega arith; read = omega arith; forms = forms })
      | else-rest-ge72 w ↦
          let e = w.pick_block-else-rest-ge72.ensures in
          let most = w.min-most.result in
          let most = w.min-most.result in
          let part : length (take most rest) ≡ most = length-take-le most rest (omega arith) in
          let padded = w.copy_front.new.padded in
          let front : take most padded ≡ take most rest = ap (λ k. take k padded) (sym part) ∙ rw is at w.copy_front.ensures in
          let same = shorter_front w.pick_block-else-rest-ge72.result.1 most padded rest e.limit front in
          let forms = picked_more l.count w.pick_block-else-rest-ge72.result.0 l.at _ l.codes w.pick_block-else-rest-ge72.new.codes src _
          l.invariant.forms e.forms same in
          rw (w.codes-is, w.next-is) (record { room = omega arith; read = omega arith; forms = forms })
    ]

pub returns-else-src-at-ge16 : goal.returns-else-src-at-ge16
returns-else-src-at-ge16 g c = let i = c.loop-left.invariant in record { most = omega (arith, i.room); read = i.read; forms = i.forms }

pub returns-after-loop-left : goal.returns-after-loop-left
returns-after-loop-left g c = let i = c.loop-left.invariant in record { most = omega (arith, i.room); read = i.read; forms = i.forms }
