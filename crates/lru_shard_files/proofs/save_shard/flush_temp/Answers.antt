use Rattle.lru_shard_files.proofs.FileSteps.{flushed_to, looking_spares, later_reason}
use Rattle.lru_shard_files.proofs.save_shard.flush_temp.Goals as goal

pub returns-clause-step : goal.returns-clause-step
returns-clause-step g c temp path bytes start was =
    let call = c.flush.ensures in
    flushed_to was (call.time was.so.kept) (call.loss was.so.kept) c.flush.result (call.cause was.so.kept) call.mode (call.kept.0 was.so.kept)

pub returns-clause-spares : goal.returns-clause-spares
returns-clause-spares g c temp path bytes start was = looking_spares was (c.flush.ensures.time was.so.kept) (c.flush.ensures.loss was.so.kept)

pub returns-clause-reason : goal.returns-clause-reason
returns-clause-reason g c temp path bytes start was = later_reason was.so c.flush.new.self c.flush.result (c.flush.ensures.cause was.so.kept) (c.flush.ensures.found was.so.kept)
