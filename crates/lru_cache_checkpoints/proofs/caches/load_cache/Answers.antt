use Rattle.std.proofs.Common.{rules, Err, sym, ap, subst, ◌∙◌}
use Rattle.std.proofs.lemmas.Result.{err_from_is_err_and}
use Rattle.lru_cache_checkpoints.specs.Restores.{Restores}
use Rattle.lru_cache_checkpoints.specs.declared.restored.RestoreError.TheVariants.{Refused}
use Rattle.lru_cache_checkpoints.proofs.caches.load_cache.Goals as goal

pub returns-in_default-clause-passed : goal.returns-in_default-clause-passed
returns-in_default-clause-passed g c = λ keeps.
    let none = c.in_default.is in
    let passed = c.in_ok-newest.ensures.passed keeps in
    rw none at passed

pub returns-in_err-left_out-clause-restores : goal.returns-in_err-left_out-clause-restores
returns-in_err-left_out-clause-restores g c = λ keeps.
    let told = err_from_is_err_and c.from_residual-in_err-left_out.result c.from_residual-in_err-left_out.ensures.1 in
    let at : Restores g.K.Stored.bytes_of g.K.Stored.is_value g.K.Stored.is_same g.V.Stored.bytes_of g.V.Stored.is_value g.V.Stored.is_same c.args.dir.now c.args.file_name.now (g.F.Folder.meaning.files c.args.folder.now) g.K.PartialEq.eq c.args.cache.now (Err (Refused c.in_err-left_out.field-0.0)) c.restore_shards.new.cache = search rules in
    subst (λ r. Restores g.K.Stored.bytes_of g.K.Stored.is_value g.K.Stored.is_same g.V.Stored.bytes_of g.V.Stored.is_value g.V.Stored.is_same c.args.dir.now c.args.file_name.now (g.F.Folder.meaning.files c.args.folder.now) g.K.PartialEq.eq c.args.cache.now r c.restore_shards.new.cache) (sym (told.1 ∙ ap Err told.2)) at
