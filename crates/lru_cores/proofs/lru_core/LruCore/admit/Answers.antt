use Rattle.std.proofs.Common.{◌%◌, ◌<◌, Ok, Err, refl, sym, ap, arith, subst}
use Rattle.std.specs.Prelude.{max}
use Rattle.lru_shard.specs.Unit.{Admits}
use Rattle.lru_cores.proofs.Units.{fits, kept_by, acts, lists_long}
use Rattle.lru_shard.proofs.EditsOf.{edits_admit}
use Rattle.lru_cores.proofs.lru_core.LruCore.admit.Goals as goal

pub change-requires-clause-weight_fits : goal.change-requires-clause-weight_fits
change-requires-clause-weight_fits g c =
    let i = c.self.inside in
    let lt : c.args.key % g.row.N < g.row.N = omega (arith, c.self.invariant.some) in
    let edit = edits_admit c.index_mut-unit.result.now c.args.key c.args.«data» c.max.result c.admit-answer.result c.admit-answer.new.self c.admit-answer.ensures in
    omega (arith, (fits g.row.N i.units.items i.totals.weight i.totals.len c.self.invariant (c.args.key % g.row.N) lt c.index_mut-unit.result.now c.index_mut-unit.ensures.value c.args.key refl c.admit-answer.new.self c.of-after.ensures.valid edit).0, c.of-before.ensures.weight, c.of-after.ensures.weight)

pub change-requires-clause-len_fits : goal.change-requires-clause-len_fits
change-requires-clause-len_fits g c =
    let i = c.self.inside in
    let lt : c.args.key % g.row.N < g.row.N = omega (arith, c.self.invariant.some) in
    let edit = edits_admit c.index_mut-unit.result.now c.args.key c.args.«data» c.max.result c.admit-answer.result c.admit-answer.new.self c.admit-answer.ensures in
    omega (arith, (fits g.row.N i.units.items i.totals.weight i.totals.len c.self.invariant (c.args.key % g.row.N) lt c.index_mut-unit.result.now c.index_mut-unit.ensures.value c.args.key refl c.admit-answer.new.self c.of-after.ensures.valid edit).1, c.of-before.ensures.len, c.of-after.ensures.len)

pub invariant_of-self : goal.invariant_of-self
invariant_of-self g c =
    let i = c.self.inside in
    let lt : c.args.key % g.row.N < g.row.N = omega (arith, c.self.invariant.some) in
    let edit = edits_admit c.index_mut-unit.result.now c.args.key c.args.«data» c.max.result c.admit-answer.result c.admit-answer.new.self c.admit-answer.ensures in
    kept_by g.row.N i.units.items i.totals.weight i.totals.len c.self.invariant (c.args.key % g.row.N) lt c.index_mut-unit.result.now c.index_mut-unit.ensures.value c.args.key refl c.admit-answer.new.self c.of-after.ensures.valid edit c.of-before.result.weight c.of-before.result.len c.of-after.result.weight c.of-after.result.len c.change.new.self.weight c.change.new.self.len c.of-before.ensures.weight c.of-before.ensures.len c.of-after.ensures.weight c.of-after.ensures.len c.change.ensures.weight c.change.ensures.len

pub returns : goal.returns
returns g c =
    let i = c.self.inside in
    let lt : c.args.key % g.row.N < g.row.N = omega (arith, c.self.invariant.some) in
    let edit = edits_admit c.index_mut-unit.result.now c.args.key c.args.«data» c.max.result c.admit-answer.result c.admit-answer.new.self c.admit-answer.ensures in
    rw (← c.self.view_is) (
      ap (λ n. c.args.key % n) (sym (lists_long g.row.N i.units.items i.totals.weight i.totals.len c.self.invariant (c.args.key % g.row.N) lt c.index_mut-unit.result.now c.index_mut-unit.ensures.value)),
      (
        c.in_default.field-0,
        acts g.row.N i.units.items i.totals.weight i.totals.len c.self.invariant (c.args.key % g.row.N) lt c.index_mut-unit.result.now c.index_mut-unit.ensures.value c.args.key refl c.admit-answer.new.self c.of-after.ensures.valid edit (λ a b. Admits a c.args.key c.args.«data» (max c.args.weight 1) (Ok c.in_default.field-0) b)
            (subst (λ w. Admits c.index_mut-unit.result.now c.args.key c.args.«data» w (Ok c.in_default.field-0) c.admit-answer.new.self) c.max.ensures c.in_default.ensures)
            i.weight_limit i.watermark i.evicted_weight i.evicted_len,
      ),
    )

pub returns-in-Err : goal.returns-in-Err
returns-in-Err g c =
    let i = c.self.inside in
    let lt : c.args.key % g.row.N < g.row.N = omega (arith, c.self.invariant.some) in
    let edit = edits_admit c.index_mut-unit.result.now c.args.key c.args.«data» c.max.result c.admit-answer.result c.admit-answer.new.self c.admit-answer.ensures in
    rw (← c.self.view_is) (
    acts g.row.N i.units.items i.totals.weight i.totals.len c.self.invariant (c.args.key % g.row.N) lt c.index_mut-unit.result.now c.index_mut-unit.ensures.value c.args.key refl c.admit-answer.new.self c.of-after.ensures.valid edit (λ a b. Admits a c.args.key c.args.«data» (max c.args.weight 1) (Err c.in-Err.refused) b)
    (subst (λ w. Admits c.index_mut-unit.result.now c.args.key c.args.«data» w (Err c.in-Err.refused) c.admit-answer.new.self) c.max.ensures c.in-Err.ensures)
    i.weight_limit i.watermark i.evicted_weight i.evicted_len
    )
