use Rattle.std.proofs.Common.{ap, [], ◌∷◌}
use Rattle.std.specs.declared.io.ErrorKind.TheVariants.{ResourceBusy}
use Rattle.lru_host_folder.specs.Calls.{Done, Locks, Matches, refusal}
use Rattle.lru_host_folder.proofs.FailsLemmas.{refuses_as, failed, before, passed_on}
use Rattle.lru_host_folder.proofs.steps.claim.Goals as goal

pub returns-then-not-lock-clause-reason : goal.returns-then-not-lock-clause-reason
returns-then-not-lock-clause-reason g c =
    refuses_as g.S.System.book.note (Done (Locks (g.S.System.book.file_of c.args.file.now) c.lock.result)) ResourceBusy c.in_use.result _ _ c.in_use.ensures
    (ap (λ is. refusal {N = g.S.System.book.Place} (Done (Locks (g.S.System.book.file_of c.args.file.now) is))) c.if-not-lock.true) c.lock.ensures

pub returns-in_err-is_at-clause-reason : goal.returns-in_err-is_at-clause-reason
returns-in_err-is_at-clause-reason g c =
    passed_on g.S.System.book.note c.from_residual.result c.in_err-is_at.field-0.0 _ _ c.from_residual.ensures.1
    (before g.S.System.book.note _ _ _ _ (Done (Locks (g.S.System.book.file_of c.args.file.now) c.lock.result) ∷ []) c.lock.ensures (failed g.S.System.book.note _ _ _ c.in_err-is_at.ensures))

pub returns-then-not-branch-clause-reason : goal.returns-then-not-branch-clause-reason
returns-then-not-branch-clause-reason g c =
    before g.S.System.book.note _ _ _ _ (Done (Locks (g.S.System.book.file_of c.args.file.now) c.lock.result) ∷ []) c.lock.ensures
    (refuses_as g.S.System.book.note (Done (Matches (g.S.System.book.file_of c.args.file.now) c.args.path.now c.in_ok-is_at.field-0)) ResourceBusy c.in_use-then-not-branch.result _ _ c.in_use-then-not-branch.ensures
    (ap (λ is. refusal {N = g.S.System.book.Place} (Done (Matches (g.S.System.book.file_of c.args.file.now) c.args.path.now is))) c.if-not-branch.true) c.in_ok-is_at.ensures)
