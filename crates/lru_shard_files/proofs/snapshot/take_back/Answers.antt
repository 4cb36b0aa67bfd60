use Rattle.lru_shard_files.proofs.SnapshotSteps.{take_step}
use Rattle.lru_shard_files.proofs.snapshot.take_back.Goals as goal

pub loop-data-preserved : goal.loop-data-preserved
loop-data-preserved g c = λ held joins ends.
    take_step c.args.core.now c.args.shard held c.args.pairs.now c.loop-data.data-index _ c.loop-data.core c.remove.new.self c.loop-data-test.true c.requires joins (c.loop-data.invariant held joins ends) c.remove.ensures.rows
