use Rattle.lru_shard_files.proofs.LoadedShards.{run_back}
use Rattle.lru_shard_files.proofs.SavedFiles.{leaves_saved, loses_saved, leaves_both, loses_both}
use Rattle.lru_shard_files.proofs.law.crash_law.Goals as goal

pub returns-clause-stop : goal.returns-clause-stop
returns-clause-stop g c run stopped =
    let m = g.F.Folder.meaning in
    let n = g.row.N in
    run_back m n run (m.files run.old)
    ((leaves_saved run.dir run.file_name n run.core m run.drawn run.rest run.old run.new run.answer run.keeps run.saves).each (m.files run.found) stopped)

pub returns-clause-loss : goal.returns-clause-loss
returns-clause-loss g c run lost =
    let m = g.F.Folder.meaning in
    let n = g.row.N in
    let from = (loses_saved run.dir run.file_name n run.core m run.drawn run.rest run.old run.new run.answer run.keeps run.saves).each (m.files run.found) lost in
    (from.0, (from.1.0, run_back m n run from.0 from.1.1))

pub returns-clause-stop_since_load : goal.returns-clause-stop_since_load
returns-clause-stop_since_load g c run first stopped =
    let m = g.F.Folder.meaning in
    let n = g.row.N in
    run_back m n run (m.files first.begun)
    ((leaves_both run.dir run.file_name n run.core m run.small first.before first.held first.begun run.old run.new first.answer run.drawn run.rest run.answer
    first.keeps run.keeps first.loads run.saves).each (m.files run.found) stopped)

pub returns-clause-loss_since_load : goal.returns-clause-loss_since_load
returns-clause-loss_since_load g c run first lost =
    let m = g.F.Folder.meaning in
    let n = g.row.N in
    let from = (loses_both run.dir run.file_name n run.core m run.small first.before first.held first.begun run.old run.new first.answer run.drawn run.rest run.answer
    first.keeps run.keeps first.loads run.saves).each (m.files run.found) lost in
    (from.0, (from.1.0, run_back m n run from.0 from.1.1))
