use Rattle.std.proofs.Common.{◌≡◌, ◌++◌, ◌+◌, take}
use Rattle.std.specs.Prelude.{map}
use Rattle.pingora_lru.specs.Core.{list_at}
use Rattle.pingora_lru.specs.Limits.{cap_of}
use Rattle.pingora_lru.specs.Row.{weight_of}
use Rattle.lru_shard_files.specs.SnapshotLoads.{row_of_pair}
use Rattle.lru_shard_files.proofs.snapshot.limit_passed.Given as goal

-- the weight that is still free, with the rows so far
abbrev pub invariant-loop-weight : goal.invariant-loop-weight
invariant-loop-weight g l = l.free_weight + weight_of (list_at l.core l.shard ++ map row_of_pair (take l.weight-index l.pairs)) ≡ cap_of g.row.N
