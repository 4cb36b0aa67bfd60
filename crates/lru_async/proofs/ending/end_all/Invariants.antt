use Rattle.std.proofs.Common.{◌≡◌, ◌≤◌, map, vec_len}
use Rattle.std.specs.Prelude.{vec_capacity}
use Rattle.lru_shard.specs.Limits.{cap_of}
use Rattle.lru_async.specs.Accounts.{Accounts}
use Rattle.lru_async.proofs.ending.end_all.Given as goal

abbrev pub invariant-loop-shard : goal.invariant-loop-shard
invariant-loop-shard g l = record {
  accounts : Accounts (cap_of g.B.Archive.shards) 0 l.ends.items (map (λ s. s.share.slips) l.seats.items);
  ends : vec_len l.ends ≡ l.shard;
  seats : vec_len l.seats ≡ l.shard;
  ends_fit : l.count ≤ vec_capacity l.ends;
  seats_fit : l.count ≤ vec_capacity l.seats;
}
