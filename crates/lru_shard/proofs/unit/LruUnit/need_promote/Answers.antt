use Rattle.std.proofs.Common.{not, ap, ◌∙◌}
use Rattle.lru_shard.proofs.Views.{promote_needed}
use Rattle.lru_shard.proofs.unit.LruUnit.need_promote.Goals as goal

pub returns : goal.returns
returns g c = ap not c.is_near_first.ensures ∙ promote_needed c.self.inside.rows c.self.inside.used_weight c.self.inside.cap c.self.invariant c.args.self.now c.self.view_is c.args.key c.args.limit
