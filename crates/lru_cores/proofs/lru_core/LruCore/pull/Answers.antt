use Rattle.std.proofs.Common.{◌%◌, ◌<◌, refl, arith}
use Rattle.lru_shard.specs.Unit.{Pulls}
use Rattle.lru_cores.specs.Core.{ActsOn, home}
use Rattle.lru_cores.specs.Representation.Units.{lists_of}
use Rattle.lru_cores.proofs.Units.{core, fits, kept_by, acts}
use Rattle.lru_shard.proofs.EditsOf.{edits_pull}
use Rattle.lru_cores.proofs.lru_core.LruCore.pull.Goals as goal

pub change-requires-clause-weight_fits : goal.change-requires-clause-weight_fits
change-requires-clause-weight_fits g c =
    let i = c.self.inside in
    let lt : c.args.key % g.row.N < g.row.N = omega (arith, c.self.invariant.some) in
    let edit = (edits_pull c.index_mut-unit.result.now c.index_mut-other.result.now c.args.key c.pull-answer.result c.pull-answer.new.self c.pull-answer.new.from c.pull-answer.ensures).0 in
    omega (arith, (fits g.row.N i.units.items i.totals.weight i.totals.len c.self.invariant (c.args.key % g.row.N) lt c.index_mut-unit.result.now c.index_mut-unit.ensures.value c.args.key refl c.pull-answer.new.self c.of-after.ensures.valid edit).0, c.of-before-2.ensures.weight, c.of-after.ensures.weight)

pub change-requires-clause-len_fits : goal.change-requires-clause-len_fits
change-requires-clause-len_fits g c =
    let i = c.self.inside in
    let lt : c.args.key % g.row.N < g.row.N = omega (arith, c.self.invariant.some) in
    let edit = (edits_pull c.index_mut-unit.result.now c.index_mut-other.result.now c.args.key c.pull-answer.result c.pull-answer.new.self c.pull-answer.new.from c.pull-answer.ensures).0 in
    omega (arith, (fits g.row.N i.units.items i.totals.weight i.totals.len c.self.invariant (c.args.key % g.row.N) lt c.index_mut-unit.result.now c.index_mut-unit.ensures.value c.args.key refl c.pull-answer.new.self c.of-after.ensures.valid edit).1, c.of-before-2.ensures.len, c.of-after.ensures.len)

pub change-requires-2-clause-weight_fits : goal.change-requires-2-clause-weight_fits
change-requires-2-clause-weight_fits g c =
    let i = c.from.inside in
    let lt : c.args.key % g.row.N < g.row.N = omega (arith, c.from.invariant.some) in
    let edit = (edits_pull c.index_mut-unit.result.now c.index_mut-other.result.now c.args.key c.pull-answer.result c.pull-answer.new.self c.pull-answer.new.from c.pull-answer.ensures).1 in
    omega (arith, (fits g.row.N i.units.items i.totals.weight i.totals.len c.from.invariant (c.args.key % g.row.N) lt c.index_mut-other.result.now c.index_mut-other.ensures.value c.args.key refl c.pull-answer.new.from c.of-after-2.ensures.valid edit).0, c.of-before.ensures.weight, c.of-after-2.ensures.weight)

pub change-requires-2-clause-len_fits : goal.change-requires-2-clause-len_fits
change-requires-2-clause-len_fits g c =
    let i = c.from.inside in
    let lt : c.args.key % g.row.N < g.row.N = omega (arith, c.from.invariant.some) in
    let edit = (edits_pull c.index_mut-unit.result.now c.index_mut-other.result.now c.args.key c.pull-answer.result c.pull-answer.new.self c.pull-answer.new.from c.pull-answer.ensures).1 in
    omega (arith, (fits g.row.N i.units.items i.totals.weight i.totals.len c.from.invariant (c.args.key % g.row.N) lt c.index_mut-other.result.now c.index_mut-other.ensures.value c.args.key refl c.pull-answer.new.from c.of-after-2.ensures.valid edit).1, c.of-before.ensures.len, c.of-after-2.ensures.len)

pub invariant_of-self : goal.invariant_of-self
invariant_of-self g c =
    let i = c.self.inside in
    let lt : c.args.key % g.row.N < g.row.N = omega (arith, c.self.invariant.some) in
    let edit = (edits_pull c.index_mut-unit.result.now c.index_mut-other.result.now c.args.key c.pull-answer.result c.pull-answer.new.self c.pull-answer.new.from c.pull-answer.ensures).0 in
    kept_by g.row.N i.units.items i.totals.weight i.totals.len c.self.invariant (c.args.key % g.row.N) lt c.index_mut-unit.result.now c.index_mut-unit.ensures.value c.args.key refl c.pull-answer.new.self c.of-after.ensures.valid edit c.of-before-2.result.weight c.of-before-2.result.len c.of-after.result.weight c.of-after.result.len c.change.new.self.weight c.change.new.self.len c.of-before-2.ensures.weight c.of-before-2.ensures.len c.of-after.ensures.weight c.of-after.ensures.len c.change.ensures.weight c.change.ensures.len

pub invariant_of-from : goal.invariant_of-from
invariant_of-from g c =
    let i = c.from.inside in
    let lt : c.args.key % g.row.N < g.row.N = omega (arith, c.from.invariant.some) in
    let edit = (edits_pull c.index_mut-unit.result.now c.index_mut-other.result.now c.args.key c.pull-answer.result c.pull-answer.new.self c.pull-answer.new.from c.pull-answer.ensures).1 in
    kept_by g.row.N i.units.items i.totals.weight i.totals.len c.from.invariant (c.args.key % g.row.N) lt c.index_mut-other.result.now c.index_mut-other.ensures.value c.args.key refl c.pull-answer.new.from c.of-after-2.ensures.valid edit c.of-before.result.weight c.of-before.result.len c.of-after-2.result.weight c.of-after-2.result.len c.change-2.new.self.weight c.change-2.new.self.len c.of-before.ensures.weight c.of-before.ensures.len c.of-after-2.ensures.weight c.of-after-2.ensures.len c.change-2.ensures.weight c.change-2.ensures.len

pub returns : goal.returns
returns g c =
    let s = c.self.inside in
    let f = c.from.inside in
    let lt : c.args.key % g.row.N < g.row.N = omega (arith, c.self.invariant.some) in
    let edits = edits_pull c.index_mut-unit.result.now c.index_mut-other.result.now c.args.key c.pull-answer.result c.pull-answer.new.self c.pull-answer.new.from c.pull-answer.ensures in
    let there = core (lists_of f.units.items) f.weight_limit f.watermark f.evicted_weight f.evicted_len in
    rw (← c.self.view_is, ← c.from.view_is) (acts g.row.N s.units.items s.totals.weight s.totals.len c.self.invariant (c.args.key % g.row.N) lt c.index_mut-unit.result.now c.index_mut-unit.ensures.value c.args.key refl c.pull-answer.new.self c.of-after.ensures.valid edits.0
    (λ a b. ActsOn there (home there c.args.key) _ (λ x y. Pulls a x c.args.key c.pull-answer.result b y))
    (acts g.row.N f.units.items f.totals.weight f.totals.len c.from.invariant (c.args.key % g.row.N) lt c.index_mut-other.result.now c.index_mut-other.ensures.value c.args.key refl c.pull-answer.new.from c.of-after-2.ensures.valid edits.1
    (λ x y. Pulls c.index_mut-unit.result.now x c.args.key c.pull-answer.result c.pull-answer.new.self y) c.pull-answer.ensures f.weight_limit f.watermark f.evicted_weight f.evicted_len)
    s.weight_limit s.watermark s.evicted_weight s.evicted_len)
