use Rattle.std.proofs.Common.{◌≡◌, ◌-◌, [], vec_len}
use Rattle.std.specs.Prelude.{All}
use Rattle.std.specs.Vec.Iter.{into_iter_items}
use Rattle.lru_inbox.specs.Logs.{hand, blank_logs, blank_fronts}
use Rattle.lru_workers.proofs.world.logged_places.Given as goal

abbrev pub invariant-loop-shard : goal.invariant-loop-shard
invariant-loop-shard g l = record {
  all : vec_len l.places ≡ l.shard;
  rest : l.rest.token.me ≡ (hand (blank_logs l.shard (l.count - l.shard)) (blank_fronts 0 l.count) [], []);
  fresh : All (λ s. s.share.slips ≡ []) (into_iter_items l.seats);
}
