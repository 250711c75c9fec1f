use Rattle.legacy_encoder_engine.proofs.CachedPairs.{asked}
use Rattle.legacy_japanese.proofs.asked_scalars.ask_others.Goals as goal

pub returns : goal.returns
returns g c = λ now k h.
    let right = g.E.PairEntries.right c.args.entries.now in
    asked right _ _ 0xFF61 0xFFA0 k c.ask_pairs-5.ensures.inside c.ask_pairs-5.ensures.outside (λ katakana.
    asked right _ _ 0x2212 0x2213 k c.ask_pairs-4.ensures.inside c.ask_pairs-4.ensures.outside (λ minus.
    asked right _ _ 0x203E 0x203F k c.ask_pairs-3.ensures.inside c.ask_pairs-3.ensures.outside (λ overline.
    asked right _ _ 0xA5 0xA6 k c.ask_pairs-2.ensures.inside c.ask_pairs-2.ensures.outside (λ yen.
    asked right _ _ 0 0x81 k c.ask_pairs.ensures.inside c.ask_pairs.ensures.outside (λ ascii.
    now k h (record { ascii = ascii; yen = yen; overline = overline; minus = minus; katakana = katakana }))))))
