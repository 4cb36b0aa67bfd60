use Rattle.lru_host_folder.specs.Steps.{way_to}
use Rattle.lru_host_folder.proofs.ReasonLemmas.{reasons_before, reason_passed}
use Rattle.lru_host_folder.proofs.TrailLemmas.{are_made_trail, made_further}
use Rattle.lru_host_folder.proofs.steps.make_all.Goals as goal

pub returns-in_err-make_at-clause-reason : goal.returns-in_err-make_at-clause-reason
returns-in_err-make_at-clause-reason g c =
    reason_passed g.S.System.book c.make_at.result c.from_residual.result c.in_err-make_at.field-0.0 _ _ c.from_residual.ensures.1 c.in_err-make_at.was
    (reasons_before g.S.System.book c.make_at.result _ _ _ (are_made_trail g.S.System.book (way_to c.args.dir.now c.loop-at.at) _ _ c.loop-at.invariant) c.make_at.ensures.reason)

pub loop-at-preserved : goal.loop-at-preserved
loop-at-preserved g c = made_further g.S.System.book c.args.dir.now c.loop-at.at _ _ _ c.loop-at.invariant c.in_ok-make_at.ensures.done
