use Rattle.lru_host_folder.proofs.ReasonLemmas.{let_go_trail, reasons_before, answered_reason, reason_passed}
use Rattle.lru_host_folder.proofs.host_folder.SystemFolderSyncedFolder.claim_dir.Goals as goal

pub returns-in_err-folder-clause-reason : goal.returns-in_err-folder-clause-reason
returns-in_err-folder-clause-reason g c =
    reason_passed g.S.System.book c.answer.result c.from_residual.result c.in_err-folder.field-0.0 _ _ c.from_residual.ensures.1 c.in_err-folder.was
    (reasons_before g.S.System.book c.answer.result _ _ _ (let_go_trail g.S.System.book c.args.self.now.claimed _ _ c.let_go.ensures.noted)
    (answered_reason g.S.System.book c.open_folder-opened.result c.answer.result _ _ c.answer.ensures c.open_folder-opened.ensures.reason))
