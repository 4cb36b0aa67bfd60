use Rattle.lru_host_folder.proofs.ReasonLemmas.{shut_trail, reasons_behind}
use Rattle.lru_host_folder.proofs.host_folder.SystemFolderFolder.rename.Goals as goal

pub returns-clause-reason : goal.returns-clause-reason
returns-clause-reason g c =
    reasons_behind g.S.System.book c.rename_for_good-renamed.result _ _ _ c.rename_for_good-renamed.ensures.reason
    (shut_trail g.S.System.book c.args.self.now.file _ _ c.shut.ensures.noted)
