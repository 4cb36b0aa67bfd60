use Rattle.std.proofs.Common.{List, ℕ, subst}
use Rattle.lru_folder.specs.Files.{Files}
use Rattle.lru_folder.specs.Sparing.{SparesAllBut}
use Rattle.lru_folder.proofs.SparingLemmas.{spares_looking, spares_then}
use Rattle.lru_shard_files.specs.Cleanup.{temp_paths}
use Rattle.lru_shard_files.proofs.cleanup.remove_temp_files.Goals as goal

pub returns-in-Ok-clause-spares : goal.returns-in-Ok-clause-spares
returns-in-Ok-clause-spares g c k =
    let m = g.F.Folder.meaning in
    let start = c.args.folder.now in
    let listed = c.list.new.self in
    let temps : Files → List (List ℕ) = temp_paths c.args.dir_path.now c.args.file_name.now in
    let same = (c.list.ensures.time k).leaves in
    spares_then m (temps (m.files start)) start listed c.remove_listed.new.folder
    (spares_looking m (temps (m.files start)) start listed k (c.list.ensures.time k) (c.list.ensures.loss k))
    (subst (λ (f : Files). SparesAllBut m (temps f) listed c.remove_listed.new.folder) same (c.remove_listed.ensures.spares (c.list.ensures.kept.0 k)))

pub returns-in-Err-NotFound-clause-spares : goal.returns-in-Err-NotFound-clause-spares
returns-in-Err-NotFound-clause-spares g c k =
    let start = c.args.folder.now in
    let temps = temp_paths c.args.dir_path.now c.args.file_name.now (g.F.Folder.meaning.files start) in
    spares_looking g.F.Folder.meaning temps start c.list.new.self k (c.list.ensures.time k) (c.list.ensures.loss k)

pub returns-in-Err-Memory-clause-spares : goal.returns-in-Err-Memory-clause-spares
returns-in-Err-Memory-clause-spares g c k =
    let start = c.args.folder.now in
    let temps = temp_paths c.args.dir_path.now c.args.file_name.now (g.F.Folder.meaning.files start) in
    spares_looking g.F.Folder.meaning temps start c.list.new.self k (c.list.ensures.time k) (c.list.ensures.loss k)

pub returns-in-Err-Io-clause-spares : goal.returns-in-Err-Io-clause-spares
returns-in-Err-Io-clause-spares g c k =
    let start = c.args.folder.now in
    let temps = temp_paths c.args.dir_path.now c.args.file_name.now (g.F.Folder.meaning.files start) in
    spares_looking g.F.Folder.meaning temps start c.list.new.self k (c.list.ensures.time k) (c.list.ensures.loss k)
