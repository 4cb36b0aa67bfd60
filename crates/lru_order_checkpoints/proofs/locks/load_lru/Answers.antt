use Rattle.std.proofs.Common.{rules, Err, sym, ap, subst, ◌∙◌}
use Rattle.std.proofs.lemmas.Result.{err_from_is_err_and}
use Rattle.lru_frames.specs.Words.{word}
use Rattle.lru_order_checkpoints.specs.Restores.{IsSameWord, IsWord, MayRestore}
use Rattle.lru_order_checkpoints.specs.declared.restored.OrderRestoreError.TheVariants.{Refused}
use Rattle.lru_order_checkpoints.proofs.locks.load_lru.Goals as goal

pub returns-in_default-clause-passed : goal.returns-in_default-clause-passed
returns-in_default-clause-passed g c = λ keeps.
    let none = c.in_default.is in
    let passed = c.in_ok-newest.ensures.passed keeps in
    rw none at passed

pub returns-in_err-restore_shards-clause-restores : goal.returns-in_err-restore_shards-clause-restores
returns-in_err-restore_shards-clause-restores g c = λ keeps.
    let told = err_from_is_err_and c.from_residual-in_err-restore_shards.result c.from_residual-in_err-restore_shards.ensures.1 in
    let at : MayRestore word IsWord IsSameWord g.V.Stored.bytes_of g.V.Stored.is_value g.V.Stored.is_same c.args.dir.now c.args.file_name.now (g.F.Folder.meaning.files c.args.folder.now) g.row.N (Err (Refused c.in_err-restore_shards.field-0.0)) = search rules in
    subst (λ r. MayRestore word IsWord IsSameWord g.V.Stored.bytes_of g.V.Stored.is_value g.V.Stored.is_same c.args.dir.now c.args.file_name.now (g.F.Folder.meaning.files c.args.folder.now) g.row.N r) (sym (told.1 ∙ ap Err told.2)) at
