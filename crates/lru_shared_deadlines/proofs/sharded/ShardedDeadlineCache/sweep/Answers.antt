use Rattle.std.proofs.Common.{subst}
use Rattle.lru_shared_cache.specs.Shards.{Owns}
use Rattle.lru_shared_deadlines.specs.Calls.{SweepsShard}
use Rattle.lru_shared_deadlines.proofs.sharded.ShardedDeadlineCache.sweep.Goals as goal

pub returns-clause-acts : goal.returns-clause-acts
returns-clause-acts g c = subst (λ x. Owns x.shards x.turn (λ before after. SweepsShard (λ p e q. goal.F-step g p e tt q) c.args.visit c.args.time c.args.most before after) c.sweep.new.shards.shards.items) c.self.view_is c.sweep.ensures.acts
