use Rattle.std.proofs.Common.{◌≡◌, take}
use Rattle.std.specs.Prelude.{map}
use Rattle.lru_shard_files.specs.Snapshot.{pair_in}
use Rattle.lru_shard_files.proofs.snapshot.pairs_in.Given as goal

abbrev pub invariant-loop-record : goal.invariant-loop-record
invariant-loop-record l = l.pairs.items ≡ map pair_in (take l.record-index l.records)
