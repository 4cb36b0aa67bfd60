use Rattle.std.proofs.Common.{◌≡◌, ◌<◌, ◌%◌, ℕ, take}
use Rattle.std.specs.Prelude.{map}
use Rattle.pingora_lru.specs.Row.{times}
use Rattle.lru_shard_files.specs.SnapshotLoads.{row_of_pair}
use Rattle.lru_shard_files.proofs.snapshot.are_home.Given as goal

-- the rows so far are of this shard
abbrev pub invariant-loop-data : goal.invariant-loop-data
invariant-loop-data g l = (k : ℕ) → 0 < times k (map row_of_pair (take l.data-index l.pairs)) → k % g.row.N ≡ l.shard
