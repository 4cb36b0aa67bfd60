use Rattle.std.proofs.Common.{◌%◌, ◌<◌, [], length, get_or, refl, sym, ap, ◌∙◌, arith}
use Rattle.lru_shard.specs.Row.{is_held}
use Rattle.lru_shard.specs.Shard.{Shard}
use Rattle.lru_shard.specs.ShardCalls.{promoted_past}
use Rattle.lru_cores.specs.Representation.Units.{lists_of}
use Rattle.lru_cores.proofs.Units.{leaves, home_list, x_valid, same_units, kept_as, leaves_as}
use Rattle.lru_shard.proofs.EditsOf.{edits_access}
use Rattle.lru_cores.proofs.CoreEvicts.{near_head, far_from_head}
use Rattle.lru_cores.proofs.lru_core.LruCore.promote_top_n.Goals as goal

pub invariant_of-self : goal.invariant_of-self
invariant_of-self g c =
    let i = c.self.inside in
    let lt : c.args.key % g.row.N < g.row.N = omega (arith, c.self.invariant.some) in
    kept_as g.row.N i.units.items i.totals.weight i.totals.len c.self.invariant (c.args.key % g.row.N) lt c.index_mut-unit.result.now c.index_mut-unit.ensures.value c.index_mut-unit.result.now refl

pub returns-then-not-need_promote-clause-answer : goal.returns-then-not-need_promote-clause-answer
returns-then-not-need_promote-clause-answer g c =
    let i = c.self.inside in
    let lt : c.args.key % g.row.N < g.row.N = omega (arith, c.self.invariant.some) in
    let near = near_head c.index_mut-unit.result.now.rows c.args.key c.args.top (sym c.if-not-need_promote.ensures) in
    rw (← c.self.view_is) (sym (ap (λ rows. is_held rows c.args.key) (home_list g.row.N i.units.items i.totals.weight i.totals.len c.self.invariant (c.args.key % g.row.N) lt c.index_mut-unit.result.now c.index_mut-unit.ensures.value c.args.key refl) ∙ near.0))

pub returns-then-not-need_promote-clause-rows : goal.returns-then-not-need_promote-clause-rows
returns-then-not-need_promote-clause-rows g c =
    let i = c.self.inside in
    let lt : c.args.key % g.row.N < g.row.N = omega (arith, c.self.invariant.some) in
    let near = near_head c.index_mut-unit.result.now.rows c.args.key c.args.top (sym c.if-not-need_promote.ensures) in
    rw (← c.self.view_is) (leaves_as g.row.N i.units.items i.totals.weight i.totals.len c.self.invariant (c.args.key % g.row.N) lt c.index_mut-unit.result.now c.index_mut-unit.ensures.value c.args.key refl c.index_mut-unit.result.now refl (promoted_past (get_or (lists_of i.units.items) (c.args.key % length (lists_of i.units.items)) []) c.args.key c.args.top)
    (sym near.1 ∙ ap (λ rows. promoted_past rows c.args.key c.args.top) (sym (home_list g.row.N i.units.items i.totals.weight i.totals.len c.self.invariant (c.args.key % g.row.N) lt c.index_mut-unit.result.now c.index_mut-unit.ensures.value c.args.key refl))) i.weight_limit i.watermark i.evicted_weight i.evicted_len)

pub invariant_of-self-2 : goal.invariant_of-self-2
invariant_of-self-2 g c =
    let i = c.self.inside in
    let lt : c.args.key % g.row.N < g.row.N = omega (arith, c.self.invariant.some) in
    let acc = edits_access c.index_mut-unit.result.now c.args.key c.access.new.self (x_valid g.row.N i.units.items i.totals.weight i.totals.len c.self.invariant (c.args.key % g.row.N) lt c.index_mut-unit.result.now c.index_mut-unit.ensures.value) c.access.ensures.rows in
    same_units g.row.N i.units.items i.totals.weight i.totals.len c.self.invariant (c.args.key % g.row.N) lt c.index_mut-unit.result.now c.index_mut-unit.ensures.value c.args.key refl c.access.new.self acc.valid acc.edit acc.same_weight acc.same_length

pub returns-clause-answer : goal.returns-clause-answer
returns-clause-answer g c =
    let i = c.self.inside in
    let lt : c.args.key % g.row.N < g.row.N = omega (arith, c.self.invariant.some) in
    rw (← c.self.view_is) (c.access.ensures.answer ∙ sym (ap (λ rows. is_held rows c.args.key) (home_list g.row.N i.units.items i.totals.weight i.totals.len c.self.invariant (c.args.key % g.row.N) lt c.index_mut-unit.result.now c.index_mut-unit.ensures.value c.args.key refl)))

pub returns-clause-rows : goal.returns-clause-rows
returns-clause-rows g c =
    let i = c.self.inside in
    let lt : c.args.key % g.row.N < g.row.N = omega (arith, c.self.invariant.some) in
    let acc = edits_access c.index_mut-unit.result.now c.args.key c.access.new.self (x_valid g.row.N i.units.items i.totals.weight i.totals.len c.self.invariant (c.args.key % g.row.N) lt c.index_mut-unit.result.now c.index_mut-unit.ensures.value) c.access.ensures.rows in
    let far = far_from_head c.index_mut-unit.result.now.rows c.args.key c.args.top (sym c.if-not-need_promote.ensures) in
    rw (← c.self.view_is) (leaves g.row.N i.units.items i.totals.weight i.totals.len c.self.invariant (c.args.key % g.row.N) lt c.index_mut-unit.result.now c.index_mut-unit.ensures.value c.args.key refl c.access.new.self acc.valid acc.edit (promoted_past (get_or (lists_of i.units.items) (c.args.key % length (lists_of i.units.items)) []) c.args.key c.args.top)
    (ap (λ (s : Shard g.row.T.Denot). s.rows) c.access.ensures.rows ∙ sym far ∙ ap (λ rows. promoted_past rows c.args.key c.args.top) (sym (home_list g.row.N i.units.items i.totals.weight i.totals.len c.self.invariant (c.args.key % g.row.N) lt c.index_mut-unit.result.now c.index_mut-unit.ensures.value c.args.key refl))) i.weight_limit i.watermark i.evicted_weight i.evicted_len)
