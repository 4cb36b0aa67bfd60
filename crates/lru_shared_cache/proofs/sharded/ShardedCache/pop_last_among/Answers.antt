use Rattle.std.proofs.Common.{◌≡◌, ◌<◌, ◌≤◌, List, [], Some, subst, ◌∙◌, arith}
use Rattle.lru_shared_cache.specs.Shards.{Sees, Owns}
use Rattle.lru_shared_cache.specs.Counting.{ShardOf, PopsShard}
use Rattle.lru_shared_cache.proofs.Popped.{none_owned, none_seen, one_more}
use Rattle.lru_shared_cache.proofs.sharded.ShardedCache.pop_last_among.Goals as goal

pub returns-in-Some-clause-pops : goal.returns-in-Some-clause-pops
returns-in-Some-clause-pops g c =
    let from : c.args.first ≤ c.loop-shard.shard = omega arith in
    let to : c.loop-shard.shard < c.args.end = omega arith in
    (c.loop-shard.shard, (from, (to, (c.loop-shard.invariant.0, subst (λ (s : List (ShardOf g.row.K.Denot g.row.V.Denot g.row.S.Denot)). Owns s c.loop-shard.shard (λ before after. PopsShard before (Some c.in-Some.gone) after) c.pop_last_of.new.self.shards) c.loop-shard.invariant.1.0 c.in-Some.ensures.acts))))

pub loop-shard-preserved : goal.loop-shard-preserved
loop-shard-preserved g c = (
  one_more c.args.first c.loop-shard.shard c.args.self.now.shards c.loop-shard.invariant.0
      (subst (λ (s : List (ShardOf g.row.K.Denot g.row.V.Denot g.row.S.Denot)). Sees s c.loop-shard.shard (λ shard. shard.cache.entries ≡ [])) c.loop-shard.invariant.1.0 (none_seen c.loop-shard.self.shards c.loop-shard.shard c.pop_last_of.new.self.shards c.in_default.ensures.acts)),
  (none_owned c.loop-shard.self.shards c.loop-shard.shard c.pop_last_of.new.self.shards c.in_default.ensures.acts ∙ c.loop-shard.invariant.1.0, c.in_default.ensures.hashes ∙ c.loop-shard.invariant.1.1),
)

pub returns-clause-pops : goal.returns-clause-pops
returns-clause-pops g c = (λ i from to. let under : i < c.loop-shard.shard = omega (arith, c.loop-shard-test.false) in c.loop-shard.invariant.0 i from under, c.loop-shard.invariant.1.0)
