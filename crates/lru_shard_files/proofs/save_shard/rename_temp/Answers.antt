use Rattle.std.proofs.Common.{ap, ◌∙◌}
use Rattle.std.specs.FinMap.{get}
use Rattle.lru_shard_files.proofs.FileSteps.{later_reason, renamed_to, renaming_spares}
use Rattle.lru_shard_files.proofs.save_shard.rename_temp.Goals as goal

pub returns-clause-spares : goal.returns-clause-spares
returns-clause-spares g c from to bytes start from_is to_is was =
    renaming_spares was c.args.temp.now c.args.path.now from_is to_is (c.rename.ensures.time was.so.kept) (c.rename.ensures.loss was.so.kept)

pub returns-clause-step : goal.returns-clause-step
returns-clause-step g c from to bytes start from_is to_is was =
    let call = c.rename.ensures in
    renamed_to was c.args.temp.now c.args.path.now from_is to_is c.rename.result (returns-clause-spares g c from to bytes start from_is to_is was)
    (call.done was.so.kept) (call.settled was.so.kept) (call.cause was.so.kept)

-- the file that was written is there
pub returns-clause-reason : goal.returns-clause-reason
returns-clause-reason g c from to bytes start from_is was =
    later_reason was.so c.rename.new.self c.rename.result (c.rename.ensures.cause was.so.kept) (λ missing.
    let none = c.rename.ensures.found was.so.kept missing in
    let here = ap (get (g.F.Folder.meaning.files c.args.folder.now)) from_is ∙ was.so.holds in cc)
