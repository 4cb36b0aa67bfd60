use Rattle.std.proofs.Common.{◌≡◌}
use Rattle.lru_shared_cache.specs.Counts.{total}
use Rattle.lru_shared_deadlines.specs.Answers.{MayBeAll}
use Rattle.lru_shared_deadlines.proofs.shared.SharedDeadlineCache.stats.Given as goal

abbrev pub invariant-loop-shard : goal.invariant-loop-shard
invariant-loop-shard g l = MayBeAll g.row.K.Denot g.row.V.Denot g.row.S.Denot l.shard (λ shards. l.stats ≡ total shards)
