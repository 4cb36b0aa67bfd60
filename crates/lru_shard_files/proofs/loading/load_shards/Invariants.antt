use Rattle.std.proofs.Common.{◌≡◌, ◌+◌, ◌<◌, ◌≤◌, length, vec_capacity}
use Rattle.lru_folder.specs.Folder.{InOrder}
use Rattle.lru_folder.specs.Meaning.{Meaning}
use Rattle.lru_shard_files.specs.Loading.{IsLoad, LoadsOne}
use Rattle.lru_shard_files.proofs.loading.load_shards.Given as goal

abbrev pub invariant-loop-shard : goal.invariant-loop-shard
invariant-loop-shard g l =
    let F = g.F.Folder in
    let m : Meaning _ = F.meaning in
    record {
      callable : goal.C-IsAlwaysCallable g l.deserialize;
      load : (load : IsLoad (goal.C-step g) (g.F.Folder.meaning.keeps l.fn.folder) (g.F.Folder.meaning.faults l.fn.folder < g.F.Folder.meaning.faults l.folder) (g.F.Folder.meaning.files l.fn.folder)
          l.dir_path l.file_name l.fn.deserialize l.deserialize l.shard l.loaded_shards l.missing_shards l.failures.items)
          × (F.meaning.keeps l.fn.folder → InOrder (LoadsOne m l.dir_path l.file_name) 0 load.turns l.fn.folder l.folder);
      sum : l.loaded_shards + l.missing_shards + length l.failures.items ≡ l.shard;
      room : l.shards ≤ vec_capacity l.failures;
      files : g.F.Folder.meaning.keeps l.fn.folder → g.F.Folder.meaning.files l.folder ≡ g.F.Folder.meaning.files l.fn.folder;
      later : g.F.Folder.meaning.keeps l.fn.folder → g.F.Folder.meaning.faults l.fn.folder ≤ g.F.Folder.meaning.faults l.folder;
      places : g.F.Folder.meaning.keeps l.fn.folder → g.F.Folder.meaning.folders l.folder ≡ g.F.Folder.meaning.folders l.fn.folder;
      kept : (g.F.Folder.meaning.keeps l.fn.folder → g.F.Folder.meaning.keeps l.folder) × (g.F.Folder.meaning.keeps l.folder → g.F.Folder.meaning.keeps l.fn.folder);
    }
