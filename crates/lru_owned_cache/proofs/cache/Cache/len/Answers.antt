use Rattle.lru_owned_cache.proofs.Views.{valid_cache}
use Rattle.lru_owned_cache.proofs.cache.Cache.len.Goals as goal

pub returns-clause-valid : goal.returns-clause-valid
returns-clause-valid g c = valid_cache g.K.PartialEq.eq c.self.inside.rows.held c.self.inside.rows.hashes c.self.inside.weight c.self.inside.most_weight c.self.inside.most_entries c.self.invariant c.args.self.now c.self.view_is c.len.ensures.valid
