use Rattle.std.proofs.Common.{◌≡◌, ◌<◌, ap, sym, ◌∙◌, length, arith}
use Rattle.std.specs.Prelude.{max}
use Rattle.std.proofs.Math.ListN.{get_or}
use Rattle.lru_workers.proofs.Heaviest.{heaviest_more}
use Rattle.lru_workers.proofs.bench.heaviest_in.Goals as goal

pub loop-effect-preserved : goal.loop-effect-preserved
loop-effect-preserved g c =
    let items = c.args.effects.now.items in
    let same : c.deref-effect-items.result.now ≡ items = c.deref-effect-items.ensures.value in
    let within : c.loop-effect.effect-index < length items = omega (arith, c.loop-effect-test.true, ap length same) in
    let here : c.effect-item.result ≡ get_or items c.loop-effect.effect-index c.effect-item.result
    = c.effect-item.is ∙ ap (λ l. get_or l c.loop-effect.effect-index c.effect-item.result) same in
    c.max-heaviest.ensures ∙ (λ j. max (c.loop-effect.invariant j) (c.weight_put.ensures j)) ∙ sym (heaviest_more items c.loop-effect.effect-index c.effect-item.result within here)
