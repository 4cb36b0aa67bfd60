use Rattle.lru_host_folder.proofs.ReasonLemmas.{shut_trail, reasons_before, answered_reason}
use Rattle.lru_host_folder.proofs.host_folder.SystemFolderFolder.remove.Goals as goal

pub returns-clause-reason : goal.returns-clause-reason
returns-clause-reason g c =
    reasons_before g.S.System.book c.answer.result _ _ _ (shut_trail g.S.System.book c.args.self.now.file _ _ c.shut.ensures.noted)
    (answered_reason g.S.System.book c.remove_unclaimed-removed.result c.answer.result _ _ c.answer.ensures c.remove_unclaimed-removed.ensures.reason)
