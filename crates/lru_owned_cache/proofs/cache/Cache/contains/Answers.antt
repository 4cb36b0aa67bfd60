use Rattle.std.proofs.Common.{◌∙◌}
use Rattle.lru_owned_cache.proofs.Views.{found_some}
use Rattle.lru_owned_cache.proofs.cache.Cache.contains.Goals as goal

pub returns : goal.returns
returns g c = c.is_some.ensures ∙ found_some g.K.PartialEq.eq c.self.inside.rows.held c.self.inside.rows.hashes c.self.inside.weight c.self.inside.most_weight c.self.inside.most_entries c.self.invariant c.args.self.now c.self.view_is c.args.key.now c.find.result c.find.ensures.finds
