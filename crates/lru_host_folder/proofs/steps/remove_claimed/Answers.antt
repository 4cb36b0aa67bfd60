use Rattle.std.proofs.Common.{◌∙◌, ap, true, [], ◌∷◌}
use Rattle.lru_host_folder.specs.Calls.{Done, Opens, Closes, Locks, Matches}
use Rattle.lru_host_folder.proofs.FailsLemmas.{failed, before, last, last_behind, passed_on}
use Rattle.lru_host_folder.proofs.steps.remove_claimed.Goals as goal

pub returns-in_err-file-clause-reason : goal.returns-in_err-file-clause-reason
returns-in_err-file-clause-reason g c =
    passed_on g.S.System.book.note c.from_residual.result c.in_err-file.field-0.0 _ _ c.from_residual.ensures.1 (failed g.S.System.book.note _ _ _ c.in_err-file.ensures.noted)

pub returns-in_err-claim-clause-reason : goal.returns-in_err-claim-clause-reason
returns-in_err-claim-clause-reason g c =
    passed_on g.S.System.book.note c.from_residual-in_err-claim.result c.in_err-claim.field-0.0 _ _ c.from_residual-in_err-claim.ensures.1
    (before g.S.System.book.note _ _ _ _ (Done (Opens c.args.path.now) ∷ []) c.in_ok-file.ensures.noted c.in_err-claim.ensures.reason)

pub returns-clause-reason : goal.returns-clause-reason
returns-clause-reason g c =
    let file = g.S.System.book.file_of c.in_ok-file.file in
    last_behind g.S.System.book.note c.remove-removed.result _ _ _ (Done (Closes file))
    (last g.S.System.book.note _ c.remove-removed.result _ _ _ (Done (Opens c.args.path.now) ∷ Done (Locks file true) ∷ Done (Matches file c.args.path.now true) ∷ [])
    (c.in_ok-claim.ensures.done ∙ ap (λ m. g.S.System.book.note (g.S.System.book.note m (Done (Locks file true))) (Done (Matches file c.args.path.now true))) c.in_ok-file.ensures.noted) c.remove-removed.ensures)
    c.close.ensures
