use Rattle.std.proofs.Common.{refl}
use Rattle.lru_folder.specs.Meaning.{Meaning}
use Rattle.lru_shard_files.proofs.RoundTrips.{holds, saves_all}
use Rattle.lru_shard_files.proofs.SnapshotRuns.{saves_seen}
use Rattle.lru_shard_files.proofs.snapshot.cores.save_core.Goals as goal

-- the closure keeps the core that it was given
pub returns-clause-saves : goal.returns-clause-saves
returns-clause-saves g c = saves_seen _ _ (λ f. f.1.now) c.args.core.now g.row.N (λ f after k given st. st.met)
    c.args.dir_path.now c.args.file_name.now _ _ c.args.folder.now c.save_shards.result _ _ refl c.shards.result c.shards.ensures.value c.save_shards.ensures.saves

pub returns-clause-held : goal.returns-clause-held
returns-clause-held g c = λ keeps all.
    let F = g.F.Folder in
    let m : Meaning _ = F.meaning in
    holds m c.args.dir_path.now c.args.file_name.now g.row.N c.args.core.now _ _ c.args.folder.now _ c.save_shards.result keeps (returns-clause-saves g c) all

pub returns-clause-all : goal.returns-clause-all
returns-clause-all g c = λ keeps same.
    let F = g.F.Folder in
    let m : Meaning _ = F.meaning in
    saves_all m c.args.dir_path.now c.args.file_name.now g.row.N c.args.core.now _ _ c.args.folder.now _ c.save_shards.result keeps c.shards.ensures.valid.some same (returns-clause-saves g c)
