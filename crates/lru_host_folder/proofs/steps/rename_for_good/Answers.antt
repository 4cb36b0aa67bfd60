use Rattle.std.proofs.Common.{inl, inr, [], ◌∷◌}
use Rattle.std.specs.IoError.{error_kind}
use Rattle.lru_host_folder.specs.Calls.{Done, Failed, Renames, SeesFile}
use Rattle.lru_host_folder.proofs.FailsLemmas.{failed, before, behind}
use Rattle.lru_host_folder.proofs.steps.rename_for_good.Goals as goal

pub returns-in-Ok-clause-reason : goal.returns-in-Ok-clause-reason
returns-in-Ok-clause-reason g c =
    inr (error_kind c.in-Err.error, (behind g.S.System.book.note _ _ _ _ (Done (SeesFile c.args.from.now c.in-Ok.field-0)) (failed g.S.System.book.note _ _ _ c.in-Err.ensures) c.in-Ok.ensures, inr c.refused.ensures))

pub returns-in-Err-is_file-clause-reason : goal.returns-in-Err-is_file-clause-reason
returns-in-Err-is_file-clause-reason g c =
    inr (error_kind c.in-Err.error, (behind g.S.System.book.note _ _ _ _ (Failed (error_kind c.in-Err-is_file.field-0)) (failed g.S.System.book.note _ _ _ c.in-Err.ensures) c.in-Err-is_file.ensures, inl c.fault.ensures))

pub returns-in-Err-sync_folder-clause-reason : goal.returns-in-Err-sync_folder-clause-reason
returns-in-Err-sync_folder-clause-reason g c =
    inr (
      error_kind c.in-Err-sync_folder.error,
      (
        before g.S.System.book.note _ _ _ _ (Done (Renames c.args.from.now c.args.to.now) ∷ []) c.in_default.ensures
            (failed g.S.System.book.note _ _ _ c.in-Err-sync_folder.ensures),
        inr c.refused-in-Err-sync_folder.ensures,
      ),
    )
