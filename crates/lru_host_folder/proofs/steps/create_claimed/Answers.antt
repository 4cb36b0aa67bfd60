use Rattle.std.proofs.Common.{inr}
use Rattle.std.specs.IoError.{error_kind}
use Rattle.lru_host_folder.proofs.FailsLemmas.{before}
use Rattle.lru_host_folder.proofs.TrailLemmas.{answered, creation_trail}
use Rattle.lru_host_folder.proofs.steps.create_claimed.Goals as goal

pub returns-in-Err-clause-reason : goal.returns-in-Err-clause-reason
returns-in-Err-clause-reason g c =
    let trail = creation_trail g.S.System.book c.args.path.now _ _ (answered _ c.create_anew-created.result c.answer.result c.in_ok-file.file c.answer.ensures c.in_ok-file.was c.create_anew-created.ensures.done) in
    inr (error_kind c.in-Err.error, (before g.S.System.book.note _ _ _ _ trail.0 trail.1 c.in-Err.ensures.reason, inr c.refused.ensures))
