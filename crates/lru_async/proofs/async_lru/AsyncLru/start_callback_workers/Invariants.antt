use Rattle.std.proofs.Common.{◌≡◌, ◌+◌, vec_len}
use Rattle.lru_async.proofs.async_lru.AsyncLru.start_callback_workers.Given as goal

abbrev pub invariant-loop : goal.invariant-loop
invariant-loop g l = record {
  world : l.self.world ≡ l.fn.self.world;
  started : vec_len l.self.callback_workers ≡ vec_len l.fn.self.callback_workers + l.counter;
  others : vec_len l.self.eviction_workers ≡ vec_len l.fn.self.eviction_workers;
}
