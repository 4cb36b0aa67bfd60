use Rattle.std.proofs.Common.{◌∙◌}
use Rattle.lru_shard.proofs.Views.{pairs_are}
use Rattle.lru_shard.proofs.unit.LruUnit.iter.Goals as goal

pub returns : goal.returns
returns g c = c.iter.ensures ∙ pairs_are c.self.inside.rows c.self.inside.used_weight c.self.inside.cap c.self.invariant c.args.self.now c.self.view_is
