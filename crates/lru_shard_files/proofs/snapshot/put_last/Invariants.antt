use Rattle.lru_shard_files.proofs.SnapshotPuts.{ArePut}
use Rattle.lru_shard_files.proofs.snapshot.put_last.Given as goal

-- the rows put so far stand last
abbrev pub invariant-loop-put : goal.invariant-loop-put
invariant-loop-put g l = ArePut l.fn.core l.shard l.pairs l.put l.core
