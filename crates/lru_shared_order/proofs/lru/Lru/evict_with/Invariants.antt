use Rattle.std.proofs.Common.{◌≡◌}
use denote.Param.Always.{always_mut}
use Rattle.lru_shard.specs.Limits.{cap_of}
use Rattle.lru_shared_order.specs.Sheds.{VisitsLight}
use Rattle.lru_shared_order.proofs.lru.Lru.evict_with.Given as goal

abbrev pub invariant-loop : goal.invariant-loop
invariant-loop g l = record {
  again : always_mut g.F.FnMut l.visit;
  light : VisitsLight (λ p x q. goal.F-step g p x tt q) l.fn.visit (cap_of g.row.N) l.visit;
  undrawn : g.row.N ≡ 1 → l.rng ≡ l.fn.rng;
}
