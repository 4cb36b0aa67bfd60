use Rattle.std.proofs.Common.{◌≡◌, ◌≤◌}
use Rattle.std.specs.Prelude.{All}
use Rattle.lru_shard.specs.Limits.{cap_of}
use Rattle.lru_shared_order.proofs.lru.Lru.evict_more.Given as goal

abbrev pub invariant-loop : goal.invariant-loop
invariant-loop g l = record {
  light : All (λ pair. pair.1 ≤ cap_of g.row.N) l.evicted.items;
  undrawn : g.row.N ≡ 1 → l.rng ≡ l.fn.rng;
}
