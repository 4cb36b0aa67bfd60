use Rattle.std.proofs.Common.{◌≡◌}
use Rattle.lru_folder.specs.Meaning.{Meaning}
use Rattle.lru_generations.specs.Touching.{TouchesOnly}
use Rattle.lru_generations.specs.Saving.{IsUnfinished}
use Rattle.lru_generations.proofs.generation_saving.clear.Given as goal

abbrev pub invariant-loop-shard : goal.invariant-loop-shard
invariant-loop-shard g l =
    let F = g.F.Folder in
    let m : Meaning _ = F.meaning in
    record {
      touches : F.meaning.keeps l.fn.folder → TouchesOnly m (IsUnfinished l.fn.dir l.fn.file_name l.fn.generation) l.fn.folder l.folder;
      places : F.meaning.keeps l.fn.folder → F.meaning.folders l.folder ≡ F.meaning.folders l.fn.folder;
      kept : (F.meaning.keeps l.fn.folder → F.meaning.keeps l.folder) × (F.meaning.keeps l.folder → F.meaning.keeps l.fn.folder);
    }
