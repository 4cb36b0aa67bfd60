use Rattle.std.proofs.Common.{[], ◌∷◌}
use Rattle.lru_host_folder.specs.Calls.{Done, SeesFile}
use Rattle.lru_host_folder.proofs.FailsLemmas.{failed, last, last_steps, passed_on}
use Rattle.lru_host_folder.proofs.steps.remove_unclaimed.Goals as goal

pub returns-in_err-is_file-clause-reason : goal.returns-in_err-is_file-clause-reason
returns-in_err-is_file-clause-reason g c =
    passed_on g.S.System.book.note c.from_residual.result c.in_err-is_file.field-0.0 _ _ c.from_residual.ensures.1 (failed g.S.System.book.note _ _ _ c.in_err-is_file.ensures)

pub returns-then-branch-clause-reason : goal.returns-then-branch-clause-reason
returns-then-branch-clause-reason g c =
    last_steps g.S.System.book.note c.remove_claimed.result _ _ _ (Done (SeesFile c.args.path.now c.in_ok-is_file.field-0) ∷ []) c.in_ok-is_file.ensures c.remove_claimed.ensures.reason

pub returns-else-branch-clause-reason : goal.returns-else-branch-clause-reason
returns-else-branch-clause-reason g c =
    last g.S.System.book.note _ c.remove.result _ _ _ (Done (SeesFile c.args.path.now c.in_ok-is_file.field-0) ∷ []) c.in_ok-is_file.ensures c.remove.ensures
