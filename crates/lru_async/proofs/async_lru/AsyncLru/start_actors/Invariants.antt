use Rattle.std.proofs.Common.{◌≡◌, ◌-◌, vec_len}
use Rattle.std.specs.Prelude.{is_some}
use Rattle.lru_workers.specs.Replying.{AreTakers}
use Rattle.lru_async.proofs.async_lru.AsyncLru.start_actors.Given as goal

abbrev pub invariant-loop-shard : goal.invariant-loop-shard
invariant-loop-shard g l = record {
  logs : AreTakers l.shard (g.row.N - l.shard) l.logs;
  same : is_some l.logs ≡ is_some l.fn.logs;
  world : l.self.world ≡ l.fn.self.world;
  workers : vec_len l.self.eviction_workers ≡ vec_len l.fn.self.eviction_workers;
  others : vec_len l.self.callback_workers ≡ vec_len l.fn.self.callback_workers;
}
