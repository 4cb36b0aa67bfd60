use Rattle.std.proofs.Common.{◌∙◌}
use Rattle.lru_owned_cache.proofs.Views.{keys_are}
use Rattle.lru_owned_cache.proofs.cache.Cache.keys.Goals as goal

pub returns : goal.returns
returns g c = c.keys.ensures ∙ keys_are g.K.PartialEq.eq c.self.inside.rows.held c.self.inside.rows.hashes c.self.inside.weight c.self.inside.most_weight c.self.inside.most_entries c.self.invariant c.args.self.now c.self.view_is
