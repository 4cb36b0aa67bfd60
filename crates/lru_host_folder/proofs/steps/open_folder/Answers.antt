use Rattle.std.proofs.Common.{ap, [], ◌∷◌}
use Rattle.std.specs.declared.io.ErrorKind.TheVariants.{NotADirectory}
use Rattle.lru_host_folder.specs.Calls.{Done, SeesFolder, refusal}
use Rattle.lru_host_folder.proofs.FailsLemmas.{refuses_as, failed, last, passed_on}
use Rattle.lru_host_folder.proofs.steps.open_folder.Goals as goal

pub returns-in_err-is_folder-clause-reason : goal.returns-in_err-is_folder-clause-reason
returns-in_err-is_folder-clause-reason g c =
    passed_on g.S.System.book.note c.from_residual.result c.in_err-is_folder.field-0.0 _ _ c.from_residual.ensures.1 (failed g.S.System.book.note _ _ _ c.in_err-is_folder.ensures)

pub returns-then-not-branch-clause-reason : goal.returns-then-not-branch-clause-reason
returns-then-not-branch-clause-reason g c =
    refuses_as g.S.System.book.note (Done (SeesFolder c.args.dir.now c.in_ok-is_folder.field-0)) NotADirectory c.new.result _ _ c.new.ensures.kind
    (ap (λ is. refusal {N = g.S.System.book.Place} (Done (SeesFolder c.args.dir.now is))) c.if-not-branch.true) c.in_ok-is_folder.ensures

pub returns-clause-reason : goal.returns-clause-reason
returns-clause-reason g c = last g.S.System.book.note _ c.open.result _ _ _ (Done (SeesFolder c.args.dir.now c.in_ok-is_folder.field-0) ∷ []) c.in_ok-is_folder.ensures c.open.ensures.noted
