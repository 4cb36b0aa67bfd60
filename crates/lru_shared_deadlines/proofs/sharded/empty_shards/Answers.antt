use Rattle.std.proofs.Common.{◌≡◌, ◌/◌, arith, subst}
use Rattle.std.specs.Prelude.{replicate}
use Rattle.lru_deadlines.specs.declared.deadlines.Until.{Until}
use Rattle.lru_shared_cache.specs.Sharded.{empty_shard}
use Rattle.lru_shared_deadlines.specs.declared.ages.Aged.{Aged}
use Rattle.lru_shared_deadlines.proofs.sharded.empty_shards.Goals as goal

pub returns-clause-empty : goal.returns-clause-empty
returns-clause-empty g c =
    let all : c.loop.counter ≡ c.args.shards = omega arith in
    subst (λ n. c.loop.made.items ≡ replicate n (empty_shard {K = g.row.K.Denot} {V = Until (Aged g.row.V.Denot)} c.args.hash_builder (c.args.limits.weight / c.args.shards) (c.args.limits.entries / c.args.shards))) all c.loop.invariant
