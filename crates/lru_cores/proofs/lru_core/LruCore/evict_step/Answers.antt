use Rattle.std.proofs.Common.{sym}
use Rattle.lru_cores.proofs.CoreEvicts.{steps}
use Rattle.lru_cores.proofs.lru_core.LruCore.evict_step.Goals as goal

pub returns : goal.returns
returns g c = steps c.args.self.now c.args.a c.args.b c.in_ok-victim.victim c.evict_from.result c.evict_from.new.self (sym c.in_ok-victim.ensures.over) c.in_ok-victim.ensures.victim c.evict_from.ensures
