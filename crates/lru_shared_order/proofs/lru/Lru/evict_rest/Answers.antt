use Rattle.std.proofs.Common.{of_calls}
use Rattle.lru_shard.specs.Limits.{cap_of}
use Rattle.lru_shared_order.proofs.Sheds.{light_push}
use Rattle.lru_shared_order.proofs.lru.Lru.evict_rest.Goals as goal

pub loop-preserved : goal.loop-preserved
loop-preserved g c = record {
  again = search of_calls parts 8;
  light = light_push (λ p x q. goal.F-step g p x tt q) (cap_of g.row.N) c.args.visit.now c.loop.visit c.visit.new.self c.in-Some.pair c.loop.invariant.light c.in-Some.ensures c.visit.ensures;
}
