use Rattle.std.proofs.Common.{[], ◌∷◌}
use Rattle.std.specs.IoError.{error_kind}
use Rattle.lru_host_folder.specs.Calls.{Failed}
use Rattle.lru_host_folder.proofs.FailsLemmas.{before, failed, last_after, passed_on}
use Rattle.lru_host_folder.proofs.TrailLemmas.{cleared_trail}
use Rattle.lru_host_folder.proofs.steps.create_anew.Goals as goal

pub returns-in_err-clear-in-Err-clause-reason : goal.returns-in_err-clear-in-Err-clause-reason
returns-in_err-clear-in-Err-clause-reason g c =
    passed_on g.S.System.book.note c.from_residual.result c.in_err-clear-in-Err.field-0.0 _ _ c.from_residual.ensures.1
    (before g.S.System.book.note _ _ _ _ (Failed (error_kind c.in-Err.error) ∷ []) c.in-Err.ensures.noted c.in_err-clear-in-Err.ensures.reason)

pub returns-in_ok-clear-in-Err-clause-reason : goal.returns-in_ok-clear-in-Err-clause-reason
returns-in_ok-clear-in-Err-clause-reason g c =
    let trail = cleared_trail g.S.System.book c.args.path.now _ _ c.in_ok-clear-in-Err.ensures.done in
    last_after g.S.System.book.note _ c.create-in-Err.result _ _ _ _ (Failed (error_kind c.in-Err.error) ∷ []) trail.0 c.in-Err.ensures.noted trail.1 c.create-in-Err.ensures.noted

pub returns-in_default-clause-reason : goal.returns-in_default-clause-reason
returns-in_default-clause-reason g c = failed g.S.System.book.note _ _ _ c.in-Err.ensures.noted
