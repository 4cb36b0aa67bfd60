use Rattle.lru_host_folder.proofs.ReasonLemmas.{shut_trail, reasons_before, answered_reason, reason_passed}
use Rattle.lru_host_folder.proofs.host_folder.SystemFolderFolder.open.Goals as goal

pub returns-in_err-file-clause-reason : goal.returns-in_err-file-clause-reason
returns-in_err-file-clause-reason g c =
    reason_passed g.S.System.book c.answer.result c.from_residual-in_err-file.result c.in_err-file.field-0.0 _ _ c.from_residual-in_err-file.ensures.1 c.in_err-file.was
    (reasons_before g.S.System.book c.answer.result _ _ _ (shut_trail g.S.System.book c.args.self.now.file _ _ c.shut.ensures.noted)
    (answered_reason g.S.System.book c.open_file-opened.result c.answer.result _ _ c.answer.ensures c.open_file-opened.ensures.reason))
