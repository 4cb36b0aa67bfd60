use Rattle.std.proofs.Common.{◌∙◌}
use Rattle.lru_shard.proofs.Views.{found_some}
use Rattle.lru_shard.proofs.unit.LruUnit.contains.Goals as goal

pub returns : goal.returns
returns g c = c.is_some.ensures ∙ found_some c.self.inside.rows c.self.inside.used_weight c.self.inside.cap c.self.invariant c.args.self.now c.self.view_is c.args.key c.find.result c.find.ensures.finds
