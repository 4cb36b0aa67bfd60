use Rattle.std.proofs.Common.{ap, sym, ◌∙◌, ◌≡◌, ◌<◌, ◌^◌, length, arith}
use Rattle.std.proofs.Math.ListN.{set}
use Rattle.lru_workers.specs.Batch.{answers, replied}
use Rattle.lru_workers.proofs.Counted.{answers_split_at}
use Rattle.lru_workers.proofs.Evicted.{noted}
use Rattle.lru_workers.proofs.bench.note_replies.Goals as goal

pub loop-effect-preserved-in-Some : goal.loop-effect-preserved-in-Some
loop-effect-preserved-in-Some g c =
    let asked = c.loop-effect.asked.items in
    let left = c.pop.new.self.items in
    let total = c.loop-effect.refused in
    let after = c.refused_before-refused.result in
    let e = c.in-Some.effect in
    let place : c.len.result ≡ length left = omega (arith, c.len.ensures, c.pop.new.self.ok.0) in
    let fits : length left < length asked = omega (arith, c.loop-effect.invariant.fits, c.in-Some.ensures.len, c.pop.new.self.ok.0, c.loop-effect.asked.ok.0) in
    let few : length left < 2 ^ 64 = omega (arith, place, c.len.type_inv) in
    let split = answers_split_at total after left e c.loop-effect.invariant.few few c.refused_before-refused.ensures in
    record {
      all = ap (λ x. replied (set asked c.len.result (record c.index_mut-asked.result.now { reply = x })) (answers after left)) c.counted.ensures
          ∙ noted asked total after left e c.len.result c.index_mut-asked.result.now place c.index_mut-asked.ensures.value fits split
          ∙ ap (λ es. replied asked (answers total es)) (sym c.in-Some.ensures.items) ∙ c.loop-effect.invariant.all;
      fits = omega (arith, c.loop-effect.invariant.fits, c.in-Some.ensures.len);
      few = c.refused_before-refused.type_inv;
    }

pub loop-effect-preserved : goal.loop-effect-preserved
loop-effect-preserved g c =
    let asked = c.loop-effect.asked.items in
    let left = c.pop.new.self.items in
    let total = c.loop-effect.refused in
    let after = c.refused_before-refused.result in
    let e = c.in-Some.effect in
    let place : c.len.result ≡ length left = omega (arith, c.len.ensures, c.pop.new.self.ok.0) in
    let fits : length left < length asked = omega (arith, c.loop-effect.invariant.fits, c.in-Some.ensures.len, c.pop.new.self.ok.0, c.loop-effect.asked.ok.0) in
    let few : length left < 2 ^ 64 = omega (arith, place, c.len.type_inv) in
    let split = answers_split_at total after left e c.loop-effect.invariant.few few c.refused_before-refused.ensures in
    record {
      all = ap (λ x. replied (set asked c.len.result (record c.index_mut-asked.result.now { reply = x })) (answers after left)) c.counted.ensures
          ∙ noted asked total after left e c.len.result c.index_mut-asked.result.now place c.index_mut-asked.ensures.value fits split
          ∙ ap (λ es. replied asked (answers total es)) (sym c.in-Some.ensures.items) ∙ c.loop-effect.invariant.all;
      fits = omega (arith, c.loop-effect.invariant.fits, c.in-Some.ensures.len);
      few = c.refused_before-refused.type_inv;
    }
