use Rattle.std.proofs.Common.{◌≡◌, ◌++◌, ℕ, List}
use Rattle.std.specs.Prelude.{map}
use Rattle.pingora_lru.specs.Core.{list_at}
use Rattle.pingora_lru.specs.Row.{pair_of}
use Rattle.lru_shard_files.specs.declared.snapshot.Keyed.{Keyed}
use Rattle.lru_shard_files.specs.Snapshot.{bytes_of}
use Rattle.lru_shard_files.proofs.SnapshotLemmas.{AreNarrow}
use Rattle.lru_shard_files.proofs.snapshot.shard_bytes.Given as goal

-- the rows written so far, and those that are still to be
abbrev pub invariant-loop-data : goal.invariant-loop-data
invariant-loop-data g l =
    (done : List (Keyed × ℕ)) × ((done ++ l.rest ≡ map pair_of (list_at l.fn.core l.fn.shard)) × ((l.bytes.items ≡ bytes_of done) × AreNarrow done))
