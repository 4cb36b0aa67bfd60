use Rattle.lru_shard_files.proofs.FileSteps.{filled_to, filling_spares, later_reason}
use Rattle.lru_shard_files.proofs.save_shard.fill_temp.Goals as goal

pub returns-clause-spares : goal.returns-clause-spares
returns-clause-spares g c temp path start was = filling_spares was (c.write_pieces.ensures.time was.so.kept) (c.write_pieces.ensures.loss was.so.kept)

pub returns-clause-step : goal.returns-clause-step
returns-clause-step g c temp path start was =
    let call = c.write_pieces.ensures in
    filled_to was c.write_pieces.result (returns-clause-spares g c temp path start was) (call.done was.so.kept) (call.cause was.so.kept) call.mode (call.kept.0 was.so.kept)

pub returns-clause-reason : goal.returns-clause-reason
returns-clause-reason g c temp path start was = later_reason was.so c.write_pieces.new.folder c.write_pieces.result (c.write_pieces.ensures.cause was.so.kept) (c.write_pieces.ensures.found was.so.kept)
