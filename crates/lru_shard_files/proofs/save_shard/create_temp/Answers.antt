use Rattle.std.proofs.Common.{refl, sym, subst}
use Rattle.std.specs.Prelude.{IsTrue}
use Rattle.lru_folder.specs.Places.{folder_of, is_there}
use Rattle.lru_shard_files.proofs.FileSteps.{created_to, has_reason}
use Rattle.lru_shard_files.proofs.LossSteps.{so_created}
use Rattle.lru_shard_files.proofs.save_shard.create_temp.Goals as goal

pub returns-clause-step : goal.returns-clause-step
returns-clause-step g c k at path bytes is distinct =
    let call = c.create.ensures in
    created_to g.F.Folder.meaning g.F.Folder.opened at path bytes c.args.folder.now c.create.new.self c.args.temp.now c.create.result distinct k is
    (call.time k) (call.loss k) (call.done k) (call.cause k) (call.kept.0 k)

pub returns-clause-spares : goal.returns-clause-spares
returns-clause-spares g c k at path bytes is distinct =
    so_created g.F.Folder.meaning at path bytes distinct c.args.folder.now k c.create.new.self c.args.temp.now is (c.create.ensures.time k) (c.create.ensures.loss k)

pub returns-clause-reason : goal.returns-clause-reason
returns-clause-reason g c k at is =
    let m = g.F.Folder.meaning in
    has_reason c.create.result (is_there (m.folders c.args.folder.now) (folder_of at)) (m.faults c.args.folder.now) (m.faults c.args.folder.now) (m.faults c.create.new.self)
    refl (c.create.ensures.cause k) (λ missing there. c.create.ensures.found k missing (subst (λ p. IsTrue (is_there (m.folders c.args.folder.now) (folder_of p))) (sym is) there))
