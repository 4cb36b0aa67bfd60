use Rattle.std.proofs.Common.{ap, ◌≡◌, ◌+◌, ◌<◌, ◌≤◌, ◌%◌, ◌^◌, length, arith}
use Rattle.lru_workers.specs.Batch.{weight_taken, rows_taken}
use Rattle.lru_workers.proofs.Evicted.{sum_step, sum_end}
use Rattle.lru_workers.proofs.bench.evicted_in.Goals as goal

pub loop-place-preserved : goal.loop-place-preserved
loop-place-preserved g c =
    let asked = c.args.asked.now in
    let effects = c.args.effects.now in
    let same : length effects.items ≡ length asked.items = omega (arith, c.requires, effects.ok.0, asked.ok.0) in
    let within : c.loop-place.place < length effects.items = omega (arith, c.len-place-end.ensures, effects.ok.0) in
    record {
      weight = sum_step weight_taken asked.items effects.items c.loop-place.place c.index.result.now c.index-in-loop-place.result.now c.loop-place.weight _ within same c.index.ensures c.index-in-loop-place.ensures
          c.loop-place.invariant.weight (ap (λ p. (c.loop-place.weight + p.0) % 2 ^ 64) c.taken_by-taken_weight.ensures);
      len = sum_step rows_taken asked.items effects.items c.loop-place.place c.index.result.now c.index-in-loop-place.result.now c.loop-place.len _ within same c.index.ensures c.index-in-loop-place.ensures
          c.loop-place.invariant.len (ap (λ p. (c.loop-place.len + p.1) % 2 ^ 64) c.taken_by-taken_weight.ensures);
    }

pub returns-clause-weight : goal.returns-clause-weight
returns-clause-weight g c =
    let past : length c.args.effects.now.items ≤ c.loop-place.place = omega (arith, c.len-place-end.ensures, c.args.effects.now.ok.0) in
    sum_end weight_taken c.args.asked.now.items c.args.effects.now.items c.loop-place.place c.loop-place.weight past c.loop-place.invariant.weight

pub returns-clause-len : goal.returns-clause-len
returns-clause-len g c =
    let past : length c.args.effects.now.items ≤ c.loop-place.place = omega (arith, c.len-place-end.ensures, c.args.effects.now.ok.0) in
    sum_end rows_taken c.args.asked.now.items c.args.effects.now.items c.loop-place.place c.loop-place.len past c.loop-place.invariant.len
