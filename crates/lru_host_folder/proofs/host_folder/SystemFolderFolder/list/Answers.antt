use Rattle.lru_host_folder.proofs.FailsLemmas.{last}
use Rattle.lru_host_folder.proofs.ReasonLemmas.{shut_trail, answered_reason, reason_or, reason_passed}
use Rattle.lru_host_folder.proofs.host_folder.SystemFolderFolder.list.Goals as goal

pub returns-in_err-names-clause-reason : goal.returns-in_err-names-clause-reason
returns-in_err-names-clause-reason g c =
    let trail = shut_trail g.S.System.book c.args.self.now.file _ _ c.shut.ensures.noted in
    reason_or g.S.System.book _ c.from_residual.result _ _
    (reason_passed g.S.System.book c.answer.result c.from_residual.result c.in_err-names.field-0.0 _ _ c.from_residual.ensures.1 c.in_err-names.was
    (answered_reason g.S.System.book c.list-told.result c.answer.result _ _ c.answer.ensures (last g.S.System.book.note _ c.list-told.result _ _ _ trail.0 trail.1 c.list-told.ensures)))
