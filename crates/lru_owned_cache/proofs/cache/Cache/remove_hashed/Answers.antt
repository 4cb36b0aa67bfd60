use Rattle.std.proofs.Common.{ap, ◌∙◌}
use Rattle.lru_owned_cache.specs.Representation.{cached_in}
use Rattle.lru_owned_cache.proofs.Queried.{query_untaken, query_light, query_kept_gone, query_answer, query_view_gone, query_kept_all}
use Rattle.lru_owned_cache.proofs.cache.Cache.remove_hashed.Goals as goal

pub returns-in_err-row-clause-answer : goal.returns-in_err-row-clause-answer
returns-in_err-row-clause-answer g c = query_untaken g.K.PartialEq.eq c.self.inside.rows.held c.self.inside.rows.hashes c.self.inside.weight c.self.inside.most_weight c.self.inside.most_entries c.self.invariant c.args.self.now c.self.view_is g.Q.Query.stands_for c.args.query c.from_residual.result c.from_residual.ensures c.in_err-row.ensures.removes.0

pub returns-in_err-row-clause-entries : goal.returns-in_err-row-clause-entries
returns-in_err-row-clause-entries g c =
    ap (λ h. cached_in c.remove_hashed.new.self.held h c.self.inside.most_weight c.self.inside.most_entries) c.in_err-row.ensures.hashes
    ∙ query_kept_all g.K.PartialEq.eq c.self.inside.rows.held c.self.inside.rows.hashes c.self.inside.weight c.self.inside.most_weight c.self.inside.most_entries c.self.invariant c.args.self.now c.self.view_is g.Q.Query.stands_for c.args.query c.remove_hashed.new.self.held c.in_err-row.ensures.removes.1 c.in_err-row.ensures.removes.0

pub overflow_sub-self : goal.overflow_sub-self
overflow_sub-self g c = query_light g.K.PartialEq.eq c.self.inside.rows.held c.self.inside.rows.hashes c.self.inside.weight c.self.inside.most_weight c.self.inside.most_entries c.self.invariant c.args.self.now c.self.view_is g.Q.Query.stands_for c.args.query g.met.K.Eq.laws.refl (g.met.Q.Query.respects_eq c.args.query) c.in_ok-row.ensures.valid c.in_ok-row.row c.remove_hashed.new.self.held c.in_ok-row.ensures.removes

pub invariant_of-self-2 : goal.invariant_of-self-2
invariant_of-self-2 g c = query_kept_gone g.K.PartialEq.eq c.self.inside.rows.held c.self.inside.rows.hashes c.self.inside.weight c.self.inside.most_weight c.self.inside.most_entries c.self.invariant c.args.self.now c.self.view_is g.Q.Query.stands_for c.args.query g.met.K.Eq.laws.refl (g.met.Q.Query.respects_eq c.args.query) c.in_ok-row.ensures.valid c.in_ok-row.row c.remove_hashed.new.self.held c.in_ok-row.ensures.removes

pub returns-clause-answer : goal.returns-clause-answer
returns-clause-answer g c = query_answer g.K.PartialEq.eq c.self.inside.rows.held c.self.inside.rows.hashes c.self.inside.weight c.self.inside.most_weight c.self.inside.most_entries c.self.invariant c.args.self.now c.self.view_is g.Q.Query.stands_for c.args.query g.met.K.Eq.laws.refl (g.met.Q.Query.respects_eq c.args.query) c.in_ok-row.ensures.valid c.in_ok-row.row c.remove_hashed.new.self.held c.in_ok-row.ensures.removes

pub returns-clause-entries : goal.returns-clause-entries
returns-clause-entries g c =
    ap (λ h. cached_in c.remove_hashed.new.self.held h c.self.inside.most_weight c.self.inside.most_entries) c.in_ok-row.ensures.hashes
    ∙ query_view_gone g.K.PartialEq.eq c.self.inside.rows.held c.self.inside.rows.hashes c.self.inside.weight c.self.inside.most_weight c.self.inside.most_entries c.self.invariant c.args.self.now c.self.view_is g.Q.Query.stands_for c.args.query g.met.K.Eq.laws.refl (g.met.Q.Query.respects_eq c.args.query) c.in_ok-row.ensures.valid c.in_ok-row.row c.remove_hashed.new.self.held c.in_ok-row.ensures.removes
