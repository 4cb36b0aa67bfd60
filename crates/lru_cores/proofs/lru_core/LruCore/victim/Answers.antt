use Rattle.std.proofs.Common.{◌≡◌, ◌<◌, true, false, cond, leb, length, sym, ap, ◌∙◌, arith, subst}
use Rattle.lru_shard.specs.Shard.{Shard}
use Rattle.lru_cores.specs.Representation.Units.{lists_of}
use Rattle.lru_cores.specs.Eviction.{IsVictim, start, is_over}
use Rattle.lru_cores.proofs.Units.{core, list_is}
use Rattle.lru_cores.proofs.Evicting.{empty_under}
use Rattle.std.proofs.lemmas.List.{length-map}
use Rattle.std.proofs.lemmas.Bool.{false≢true}
use Rattle.lru_shard.specs.Victims.{longer_of}
use Rattle.lru_cores.proofs.lru_core.LruCore.victim.Goals as goal

pub unreachable-requires : goal.unreachable-requires
unreachable-requires g c =
    let i = c.self.inside in
    let long = length-map i.units.items (λ (u : Shard g.row.T.Denot). u.rows) in
    let state = core (lists_of i.units.items) i.weight_limit i.watermark i.evicted_weight i.evicted_len in
    let n = length (lists_of i.units.items) in
    let from : c.longer_of-start.result < n = subst (λ s. s < n) (sym c.longer_of-start.ensures)
    (elim (leb c.len-2.result c.len.result) as (λ longer. cond longer c.args.a c.args.b < n) [ true ↦ omega (arith, long, c.requires.a) | false ↦ omega (arith, long, c.requires.b) ]) in
    let under = empty_under state c.longer_of-start.result from c.in_default.ensures.none in
    let over : is_over state ≡ true = ap is_over c.self.view_is ∙ sym c.is_over.ensures ∙ c.if-not-is_over.false in
    false≢true (sym under ∙ over)

pub returns-clause-over : goal.returns-clause-over
returns-clause-over g c = sym (sym c.is_over.ensures ∙ c.if-not-is_over.false)

pub returns-clause-victim : goal.returns-clause-victim
returns-clause-victim g c =
    let i = c.self.inside in
    let state = core (lists_of i.units.items) i.weight_limit i.watermark i.evicted_weight i.evicted_len in
    let at_b = list_is g.row.N i.units.items i.totals.weight i.totals.len c.self.invariant c.args.b (omega (arith, c.requires.b)) c.index-2.result.now c.index-2.ensures in
    let at_a = list_is g.row.N i.units.items i.totals.weight i.totals.len c.self.invariant c.args.a (omega (arith, c.requires.a)) c.index.result.now c.index.ensures in
    let long_a = c.len.ensures.value ∙ sym (ap length at_a) in
    let long_b = c.len-2.ensures.value ∙ sym (ap length at_b) in
    let from : c.longer_of-start.result ≡ start state c.args.a c.args.b = c.longer_of-start.ensures ∙ (λ j. longer_of c.args.a c.args.b (long_a j) (long_b j)) in
    let held : IsVictim state.lists (start state c.args.a c.args.b) c.in-Some.victim = subst (λ z. IsVictim (lists_of i.units.items) z c.in-Some.victim) from c.in-Some.ensures.held in
    subst (λ s. IsVictim s.lists (start s c.args.a c.args.b) c.in-Some.victim) c.self.view_is held
