use Rattle.std.proofs.Common.{◌≡◌, ◌≤◌, length, vec_len, vec_capacity}
use Rattle.lru_shard.specs.Shards.{AreOwn}
use Rattle.lru_shared_order.proofs.lru.Lru.into_units.Given as goal

abbrev pub invariant-loop-shard : goal.invariant-loop-shard
invariant-loop-shard g l = record {
  len : vec_len l.units ≡ length l.yielded;
  room : g.row.N ≤ vec_capacity l.units;
  own : AreOwn g.row.N l.units.items;
}
