use Rattle.lru_host_folder.proofs.ReasonLemmas.{shut_trail, reasons_before}
use Rattle.lru_host_folder.proofs.host_folder.SystemFolderFolder.make.Goals as goal

pub returns-clause-reason : goal.returns-clause-reason
returns-clause-reason g c =
    reasons_before g.S.System.book c.make_all.result _ _ _ (shut_trail g.S.System.book c.args.self.now.file _ _ c.shut.ensures.noted) c.make_all.ensures.reason
