use Rattle.std.proofs.Common.{◌∙◌, ap, [], ◌∷◌}
use Rattle.std.specs.declared.io.ErrorKind.TheVariants.{InvalidInput}
use Rattle.lru_host_folder.specs.Calls.{Done, SeesFile, Opens, refusal}
use Rattle.lru_host_folder.proofs.FailsLemmas.{refuses_as, failed, before, passed_on}
use Rattle.lru_host_folder.proofs.steps.open_file.Goals as goal

pub returns-in_err-is_file-clause-reason : goal.returns-in_err-is_file-clause-reason
returns-in_err-is_file-clause-reason g c =
    passed_on g.S.System.book.note c.from_residual.result c.in_err-is_file.field-0.0 _ _ c.from_residual.ensures.1 (failed g.S.System.book.note _ _ _ c.in_err-is_file.ensures)

pub returns-then-not-branch-clause-reason : goal.returns-then-not-branch-clause-reason
returns-then-not-branch-clause-reason g c =
    refuses_as g.S.System.book.note (Done (SeesFile c.args.path.now c.in_ok-is_file.field-0)) InvalidInput c.new.result _ _ c.new.ensures.kind
    (ap (λ is. refusal {N = g.S.System.book.Place} (Done (SeesFile c.args.path.now is))) c.if-not-branch.true) c.in_ok-is_file.ensures

pub returns-in_err-file-clause-reason : goal.returns-in_err-file-clause-reason
returns-in_err-file-clause-reason g c =
    passed_on g.S.System.book.note c.from_residual-in_err-file.result c.in_err-file.field-0.0 _ _ c.from_residual-in_err-file.ensures.1
    (before g.S.System.book.note _ _ _ _ (Done (SeesFile c.args.path.now c.in_ok-is_file.field-0) ∷ []) c.in_ok-is_file.ensures (failed g.S.System.book.note _ _ _ c.in_err-file.ensures.noted))

pub returns-in_err-len-clause-reason : goal.returns-in_err-len-clause-reason
returns-in_err-len-clause-reason g c =
    passed_on g.S.System.book.note c.from_residual-in_err-len.result c.in_err-len.field-0.0 _ _ c.from_residual-in_err-len.ensures.1
    (before g.S.System.book.note _ _ _ _ (Done (SeesFile c.args.path.now c.in_ok-is_file.field-0) ∷ Done (Opens c.args.path.now) ∷ [])
    (c.in_ok-file.ensures.noted ∙ ap (λ m. g.S.System.book.note m (Done (Opens c.args.path.now))) c.in_ok-is_file.ensures) (failed g.S.System.book.note _ _ _ c.in_err-len.ensures))
