use Rattle.lru_generations.proofs.Touched.{touches_looked}
use Rattle.lru_generations.specs.Checkpoints.{IsFrame}
use Rattle.lru_generations.proofs.generation_saving.save_parts.Goals as goal

pub returns-in-Err-clause-reason : goal.returns-in-Err-clause-reason
returns-in-Err-clause-reason g c k = (c.args.folder.now, c.in-Err.ensures.reason k)

pub returns-in-Err-sync_names-clause-reason : goal.returns-in-Err-sync_names-clause-reason
returns-in-Err-sync_names-clause-reason g c k =
    (c.save_frames.new.folder, c.in-Err-sync_names.ensures.reason (c.save_frames.ensures.kept.0 k) c.args.file_name.now c.args.generation)

pub returns-in-Err-sync_names-clause-touches : goal.returns-in-Err-sync_names-clause-touches
returns-in-Err-sync_names-clause-touches g c k =
    let k-1 = c.save_frames.ensures.kept.0 k in
    touches_looked g.F.Folder.meaning (IsFrame c.args.dir.now c.args.file_name.now c.args.generation) c.args.folder.now c.save_frames.new.folder c.sync_names.new.folder
    (c.save_frames.ensures.touches k) (c.sync_names.ensures.time k-1) (c.sync_names.ensures.loss k-1)

pub returns-in-Ok-sync_names-clause-touches : goal.returns-in-Ok-sync_names-clause-touches
returns-in-Ok-sync_names-clause-touches g c k =
    let k-1 = c.save_frames.ensures.kept.0 k in
    touches_looked g.F.Folder.meaning (IsFrame c.args.dir.now c.args.file_name.now c.args.generation) c.args.folder.now c.save_frames.new.folder c.sync_names.new.folder
    (c.save_frames.ensures.touches k) (c.sync_names.ensures.time k-1) (c.sync_names.ensures.loss k-1)
