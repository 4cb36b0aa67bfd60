use Rattle.std.proofs.Common.{◌∙◌}
use Rattle.lru_owned_cache.proofs.Queried.{query_some}
use Rattle.lru_owned_cache.proofs.cache.Cache.contains_hashed.Goals as goal

pub returns : goal.returns
returns g c = c.is_some.ensures ∙ query_some g.K.PartialEq.eq c.self.inside.rows.held c.self.inside.rows.hashes c.self.inside.weight c.self.inside.most_weight c.self.inside.most_entries c.self.invariant c.args.self.now c.self.view_is g.Q.Query.stands_for c.args.query c.find_hashed.result c.find_hashed.ensures.finds
