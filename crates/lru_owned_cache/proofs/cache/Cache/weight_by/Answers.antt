use Rattle.std.proofs.Common.{◌∙◌}
use Rattle.lru_owned_cache.proofs.Queried.{query_nothing, query_at, query_weight}
use Rattle.lru_owned_cache.proofs.cache.Cache.weight_by.Goals as goal

pub returns-in_err-found : goal.returns-in_err-found
returns-in_err-found g c = c.from_residual.ensures ∙ query_nothing g.K.PartialEq.eq c.self.inside.rows.held c.self.inside.rows.hashes c.self.inside.weight c.self.inside.most_weight c.self.inside.most_entries c.self.invariant c.args.self.now c.self.view_is g.Q.Query.stands_for c.args.query (λ e. e.weight) c.in_err-found.ensures.finds

pub weight_at-requires : goal.weight_at-requires
weight_at-requires g c = query_at g.K.PartialEq.eq c.self.inside.rows.held c.self.inside.rows.hashes c.self.inside.weight c.self.inside.most_weight c.self.inside.most_entries c.self.invariant c.args.self.now c.self.view_is g.Q.Query.stands_for c.args.query c.in_ok-found.found c.in_ok-found.ensures.finds

pub returns : goal.returns
returns g c = query_weight g.K.PartialEq.eq c.self.inside.rows.held c.self.inside.rows.hashes c.self.inside.weight c.self.inside.most_weight c.self.inside.most_entries c.self.invariant c.args.self.now c.self.view_is g.Q.Query.stands_for c.args.query c.in_ok-found.found c.weight_at.result c.in_ok-found.ensures.finds c.weight_at.ensures
