use Rattle.std.proofs.Common.{◌≡◌, ◌++◌, List, drop}
use Rattle.std.specs.Prelude.{map}
use Rattle.pingora_lru.specs.Core.{list_at, with_list}
use Rattle.pingora_lru.specs.Row.{Row}
use Rattle.lru_shard_files.specs.declared.snapshot.Keyed.{Keyed}
use Rattle.lru_shard_files.specs.SnapshotLoads.{row_of_pair, Joins}
use Rattle.lru_shard_files.proofs.snapshot.take_back.Given as goal

-- the rows that are still to be taken out stand last
abbrev pub invariant-loop-data : goal.invariant-loop-data
invariant-loop-data g l =
    (held : List (Row Keyed)) → Joins (with_list l.fn.core l.shard held) l.shard (map row_of_pair l.pairs)
    → list_at l.fn.core l.shard ≡ held ++ map row_of_pair l.pairs
    → l.core ≡ with_list l.fn.core l.shard (held ++ map row_of_pair (drop l.data-index l.pairs))
