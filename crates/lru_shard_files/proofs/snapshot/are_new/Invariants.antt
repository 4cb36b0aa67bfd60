use Rattle.std.proofs.Common.{◌≡◌, ◌++◌, ℕ, take, nat_eq}
use Rattle.std.specs.Prelude.{map, nat_lt}
use Rattle.std.specs.HashSet as bag
use Rattle.pingora_lru.specs.Core.{list_at}
use Rattle.pingora_lru.specs.Row.{times, HasDistinctKeys}
use Rattle.lru_shard_files.specs.SnapshotLoads.{row_of_pair}
use Rattle.lru_shard_files.proofs.snapshot.are_new.Given as goal

-- the rows so far may stand there, and the set has their keys
abbrev pub invariant-loop-data : goal.invariant-loop-data
invariant-loop-data g l =
    let rows = map row_of_pair (take l.data-index l.pairs) in record {
      keys : HasDistinctKeys (list_at l.core l.shard ++ rows);
      seen : (k : ℕ) → bag.contains nat_eq l.seen k ≡ nat_lt 0 (times k rows);
    }
