use Rattle.std.proofs.Common.{arith, ap, subst, sym, ◌∙◌}
use Rattle.lru_owned_cache.specs.Cache.{Cached, Settles}
use Rattle.lru_owned_cache.specs.Representation.{cached_in}
use Rattle.lru_owned_cache.proofs.Settled.{stands_first, first_light, others_weigh, still_first, kept_settled, view_settled}
use Rattle.lru_owned_cache.proofs.cache.Cache.settle.Goals as goal

pub weight_at-requires : goal.weight_at-requires
weight_at-requires g c = stands_first g.K.PartialEq.eq c.self.inside.rows.held c.self.inside.rows.hashes c.self.inside.weight c.self.inside.most_weight c.self.inside.most_entries c.self.invariant c.args.self.now c.self.view_is c.in-Some.ensures.valid c.in-Some.place c.in-Some.ensures.place

pub overflow_sub-others : goal.overflow_sub-others
overflow_sub-others g c = first_light g.K.PartialEq.eq c.self.inside.rows.held c.self.inside.rows.hashes c.self.inside.weight c.self.inside.most_weight c.self.inside.most_entries c.self.invariant c.args.self.now c.self.view_is c.in-Some.ensures.valid c.in-Some.place c.in-Some.ensures.place c.weight_at.result c.weight_at.ensures

pub shrink-left-requires-clause-used : goal.shrink-left-requires-clause-used
shrink-left-requires-clause-used g c = others_weigh g.K.PartialEq.eq c.self.inside.rows.held c.self.inside.rows.hashes c.self.inside.weight c.self.inside.most_weight c.self.inside.most_entries c.self.invariant c.args.self.now c.self.view_is c.in-Some.ensures.valid c.in-Some.place c.in-Some.ensures.place c.weight_at.result c.weight_at.ensures c.set_weight.new.self.held c.set_weight.ensures.rows

pub set_weight-requires-2 : goal.set_weight-requires-2
set_weight-requires-2 g c = still_first g.K.PartialEq.eq c.self.inside.rows.held c.self.inside.rows.hashes c.self.inside.weight c.self.inside.most_weight c.self.inside.most_entries c.self.invariant c.args.self.now c.self.view_is c.in-Some.ensures.valid c.in-Some.place c.in-Some.ensures.place c.weight_at.result c.weight_at.ensures c.set_weight.new.self.held c.set_weight.ensures.rows (λ p x q. goal.F-step g p x tt q) c.args.visit c.args.weight (omega (arith, c.requires.light, ap (λ (y : Cached g.row.K.Denot g.row.V.Denot g.row.S.Denot). y.most_weight) c.self.view_is)) c.shrink-left.new.rows.held c.shrink-left.ensures.shrinks

pub invariant_of-self : goal.invariant_of-self
invariant_of-self g c = kept_settled g.K.PartialEq.eq c.self.inside.rows.held c.self.inside.rows.hashes c.self.inside.weight c.self.inside.most_weight c.self.inside.most_entries c.self.invariant c.args.self.now c.self.view_is c.in-Some.ensures.valid c.in-Some.place c.in-Some.ensures.place c.weight_at.result c.weight_at.ensures c.set_weight.new.self.held c.set_weight.ensures.rows (λ p x q. goal.F-step g p x tt q) c.args.visit c.args.weight (omega (arith, c.requires.light, ap (λ (y : Cached g.row.K.Denot g.row.V.Denot g.row.S.Denot). y.most_weight) c.self.view_is)) c.shrink-left.new.rows.held c.shrink-left.ensures.shrinks c.set_weight-2.new.self.held c.set_weight-2.ensures.rows c.shrink-left.result c.shrink-left.ensures.used

pub returns : goal.returns
returns g c =
    subst (λ h. Settles (λ p x q. goal.F-step g p x tt q) c.args.visit c.args.self.now c.args.weight (cached_in c.set_weight-2.new.self.held h c.self.inside.most_weight c.self.inside.most_entries)) (sym (c.set_weight-2.ensures.hashes ∙ c.shrink-left.ensures.hashes ∙ c.set_weight.ensures.hashes))
    (view_settled g.K.PartialEq.eq c.self.inside.rows.held c.self.inside.rows.hashes c.self.inside.weight c.self.inside.most_weight c.self.inside.most_entries c.self.invariant c.args.self.now c.self.view_is c.in-Some.ensures.valid c.in-Some.place c.in-Some.ensures.place c.weight_at.result c.weight_at.ensures c.set_weight.new.self.held c.set_weight.ensures.rows (λ p x q. goal.F-step g p x tt q) c.args.visit c.args.weight (omega (arith, c.requires.light, ap (λ (y : Cached g.row.K.Denot g.row.V.Denot g.row.S.Denot). y.most_weight) c.self.view_is)) c.shrink-left.new.rows.held c.shrink-left.ensures.shrinks c.set_weight-2.new.self.held c.set_weight-2.ensures.rows)
