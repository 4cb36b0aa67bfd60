use Rattle.std.proofs.Common.{ap, ◌∙◌}
use Rattle.std.specs.Option.{option_copied}
use Rattle.lru_owned_cache.proofs.Queried.{query_nothing, query_at, query_value}
use Rattle.lru_owned_cache.proofs.cache.Cache.peek_hashed.Goals as goal

pub returns-in_err-found : goal.returns-in_err-found
returns-in_err-found g c = ap option_copied c.from_residual.ensures ∙ query_nothing g.K.PartialEq.eq c.self.inside.rows.held c.self.inside.rows.hashes c.self.inside.weight c.self.inside.most_weight c.self.inside.most_entries c.self.invariant c.args.self.now c.self.view_is g.Q.Query.stands_for c.args.query (λ e. e.value) c.in_err-found.ensures.finds

pub value_at-requires : goal.value_at-requires
value_at-requires g c = query_at g.K.PartialEq.eq c.self.inside.rows.held c.self.inside.rows.hashes c.self.inside.weight c.self.inside.most_weight c.self.inside.most_entries c.self.invariant c.args.self.now c.self.view_is g.Q.Query.stands_for c.args.query c.in_ok-found.found c.in_ok-found.ensures.finds

pub returns : goal.returns
returns g c = query_value g.K.PartialEq.eq c.self.inside.rows.held c.self.inside.rows.hashes c.self.inside.weight c.self.inside.most_weight c.self.inside.most_entries c.self.invariant c.args.self.now c.self.view_is g.Q.Query.stands_for c.args.query c.in_ok-found.found c.value_at.result.now c.in_ok-found.ensures.finds c.value_at.ensures
