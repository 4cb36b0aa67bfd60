use Rattle.std.proofs.Common.{◌≡◌, length}
use Rattle.std.specs.Prelude.{◌-◌, ◌^◌, min, sum_by}
use Rattle.lru_shared_deadlines.specs.Answers.{MayBeAll}
use Rattle.lru_shared_deadlines.proofs.shared.SharedDeadlineCache.len.Given as goal

abbrev pub invariant-loop-shard : goal.invariant-loop-shard
invariant-loop-shard g l = MayBeAll g.row.K.Denot g.row.V.Denot g.row.S.Denot l.shard (λ shards. l.len ≡ min (sum_by (λ shard. length shard.cache.entries) shards) (2 ^ 64 - 1))
