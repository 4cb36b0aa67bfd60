use Rattle.std.proofs.Common.{◌∙◌}
use Rattle.lru_shard.proofs.Views.{keys_are}
use Rattle.lru_shard.proofs.unit.LruUnit.keys.Goals as goal

pub returns : goal.returns
returns g c = c.keys.ensures ∙ keys_are c.self.inside.rows c.self.inside.used_weight c.self.inside.cap c.self.invariant c.args.self.now c.self.view_is
