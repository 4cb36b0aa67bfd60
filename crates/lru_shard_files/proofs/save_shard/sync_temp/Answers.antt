use Rattle.lru_shard_files.proofs.FileSteps.{synced_to, looking_spares, later_reason}
use Rattle.lru_shard_files.proofs.save_shard.sync_temp.Goals as goal

pub returns-clause-step : goal.returns-clause-step
returns-clause-step g c temp path bytes start was =
    let call = c.sync.ensures in
    synced_to was (call.time was.so.kept) (call.loss was.so.kept) c.sync.result (call.cause was.so.kept) (call.done was.so.kept) (call.kept.0 was.so.kept)

pub returns-clause-spares : goal.returns-clause-spares
returns-clause-spares g c temp path bytes start was = looking_spares was (c.sync.ensures.time was.so.kept) (c.sync.ensures.loss was.so.kept)

pub returns-clause-reason : goal.returns-clause-reason
returns-clause-reason g c temp path bytes start was = later_reason was.so c.sync.new.self c.sync.result (c.sync.ensures.cause was.so.kept) (c.sync.ensures.found was.so.kept)
