use Rattle.std.proofs.Common.{◌≡◌, ◌%◌, length, refl, sym, ap, ◌∙◌, arith, subst}
use Rattle.lru_cores.specs.Core.{Core, list_at, IsCore}
use Rattle.lru_cores.specs.Sparing.{IsNext, IsLast}
use Rattle.lru_cores.proofs.Units.{is_core, list_is}
use Rattle.lru_cores.proofs.Sparing.{more_gives, next_gives, last_gives}
use Rattle.lru_cores.proofs.lru_core.LruCore.victim_sparing.Goals as goal

pub nonzero_rem-own : goal.nonzero_rem-own
nonzero_rem-own g c = c.self.invariant.some

pub returns-then-not-is_over-clause-valid : goal.returns-then-not-is_over-clause-valid
returns-then-not-is_over-clause-valid g c =
    let i = c.self.inside in
    subst (IsCore g.row.N) c.self.view_is (is_core g.row.N i.units.items i.totals.weight i.totals.len c.self.invariant i.weight_limit i.watermark i.evicted_weight i.evicted_len)

pub returns-then-len-gt1-clause-valid : goal.returns-then-len-gt1-clause-valid
returns-then-len-gt1-clause-valid g c =
    let i = c.self.inside in
    subst (IsCore g.row.N) c.self.view_is (is_core g.row.N i.units.items i.totals.weight i.totals.len c.self.invariant i.weight_limit i.watermark i.evicted_weight i.evicted_len)

pub returns-then-len-gt1-clause-victim : goal.returns-then-len-gt1-clause-victim
returns-then-len-gt1-clause-victim g c =
    let i = c.self.inside in
    let valid = subst (IsCore g.row.N) c.self.view_is (is_core g.row.N i.units.items i.totals.weight i.totals.len c.self.invariant i.weight_limit i.watermark i.evicted_weight i.evicted_len) in
    let own = c.args.key % g.row.N in
    let at = list_is g.row.N i.units.items i.totals.weight i.totals.len c.self.invariant own (omega (arith, c.self.invariant.some)) c.index.result.now c.index.ensures in
    let long : length (list_at c.args.self.now own) ≡ c.len.result = ap (λ (s : Core g.row.T.Denot). length (list_at s own)) (sym c.self.view_is) ∙ ap length at ∙ sym c.len.ensures.value in
    more_gives g.row.N c.args.self.now valid c.args.key own refl c.requires (sym c.is_over.ensures ∙ c.if-not-is_over.false) (omega (arith, long, c.if-len-gt1.true))

pub returns-in-Some-clause-valid : goal.returns-in-Some-clause-valid
returns-in-Some-clause-valid g c =
    let i = c.self.inside in
    subst (IsCore g.row.N) c.self.view_is (is_core g.row.N i.units.items i.totals.weight i.totals.len c.self.invariant i.weight_limit i.watermark i.evicted_weight i.evicted_len)

pub returns-in-None-clause-valid : goal.returns-in-None-clause-valid
returns-in-None-clause-valid g c =
    let i = c.self.inside in
    subst (IsCore g.row.N) c.self.view_is (is_core g.row.N i.units.items i.totals.weight i.totals.len c.self.invariant i.weight_limit i.watermark i.evicted_weight i.evicted_len)

pub returns-in-Some-clause-victim : goal.returns-in-Some-clause-victim
returns-in-Some-clause-victim g c =
    let i = c.self.inside in
    let valid = subst (IsCore g.row.N) c.self.view_is (is_core g.row.N i.units.items i.totals.weight i.totals.len c.self.invariant i.weight_limit i.watermark i.evicted_weight i.evicted_len) in
    let own = c.args.key % g.row.N in
    let at = list_is g.row.N i.units.items i.totals.weight i.totals.len c.self.invariant own (omega (arith, c.self.invariant.some)) c.index.result.now c.index.ensures in
    let long : length (list_at c.args.self.now own) ≡ c.len.result = ap (λ (s : Core g.row.T.Denot). length (list_at s own)) (sym c.self.view_is) ∙ ap length at ∙ sym c.len.ensures.value in
    next_gives g.row.N c.args.self.now valid c.args.key own refl c.requires (sym c.is_over.ensures ∙ c.if-not-is_over.false) c.in-Some.next (omega (arith, long, c.if-len-gt1.false))
    (subst (λ (s : Core g.row.T.Denot). IsNext s.lists own c.in-Some.next) c.self.view_is c.in-Some.ensures.held)

pub returns-in-None-clause-victim : goal.returns-in-None-clause-victim
returns-in-None-clause-victim g c =
    let i = c.self.inside in
    let valid = subst (IsCore g.row.N) c.self.view_is (is_core g.row.N i.units.items i.totals.weight i.totals.len c.self.invariant i.weight_limit i.watermark i.evicted_weight i.evicted_len) in
    let own = c.args.key % g.row.N in
    let at = list_is g.row.N i.units.items i.totals.weight i.totals.len c.self.invariant own (omega (arith, c.self.invariant.some)) c.index.result.now c.index.ensures in
    let long : length (list_at c.args.self.now own) ≡ c.len.result = ap (λ (s : Core g.row.T.Denot). length (list_at s own)) (sym c.self.view_is) ∙ ap length at ∙ sym c.len.ensures.value in
    last_gives g.row.N c.args.self.now valid c.args.key own refl c.requires (sym c.is_over.ensures ∙ c.if-not-is_over.false) (omega (arith, long, c.if-len-gt1.false))
    (subst (λ (s : Core g.row.T.Denot). IsLast s.lists own) c.self.view_is c.in-None.ensures.none)
