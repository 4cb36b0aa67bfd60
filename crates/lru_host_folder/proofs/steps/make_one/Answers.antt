use Rattle.std.proofs.Common.{[], ◌∷◌}
use Rattle.std.specs.IoError.{error_kind}
use Rattle.lru_host_folder.specs.Calls.{Done, Failed, MakesFolder, SeesFolder}
use Rattle.lru_host_folder.proofs.FailsLemmas.{failed, before, behind, last, passed_on}
use Rattle.lru_host_folder.proofs.steps.make_one.Goals as goal

pub returns-in-Ok-clause-reason : goal.returns-in-Ok-clause-reason
returns-in-Ok-clause-reason g c = last g.S.System.book.note _ c.sync_folder.result _ _ _ (Done (MakesFolder c.args.dir.now) ∷ []) c.in-Ok.ensures c.sync_folder.ensures

pub returns-in_err-is_folder-in-Err-clause-reason : goal.returns-in_err-is_folder-in-Err-clause-reason
returns-in_err-is_folder-in-Err-clause-reason g c =
    passed_on g.S.System.book.note c.from_residual.result c.in_err-is_folder-in-Err.field-0.0 _ _ c.from_residual.ensures.1
    (before g.S.System.book.note _ _ _ _ (Failed (error_kind c.in-Err.error) ∷ []) c.in-Err.ensures (failed g.S.System.book.note _ _ _ c.in_err-is_folder-in-Err.ensures))

pub returns-else-branch-clause-reason : goal.returns-else-branch-clause-reason
returns-else-branch-clause-reason g c =
    behind g.S.System.book.note _ _ _ _ (Done (SeesFolder c.args.dir.now c.in_ok-is_folder-in-Err.field-0)) (failed g.S.System.book.note _ _ _ c.in-Err.ensures) c.in_ok-is_folder-in-Err.ensures

pub returns-in-Err-2-clause-reason : goal.returns-in-Err-2-clause-reason
returns-in-Err-2-clause-reason g c = failed g.S.System.book.note _ _ _ c.in-Err.ensures
