use Rattle.std.proofs.Common.{◌≡◌, ℕ, List, length, Some, slice_get}
use Rattle.lru_folder.specs.Meaning.{Meaning}
use Rattle.lru_frames.specs.declared.row.Row.{Row}
use Rattle.lru_frames.specs.Marks.{mark_of}
use Rattle.lru_generations.specs.Manifests.{part_header}
use Rattle.lru_generations.specs.Touching.{TouchesNothing}
use Rattle.lru_generations.specs.Checkpoints.{HasFrames, FitsEach}
use Rattle.lru_generations.specs.Loads.{rows_of}
use Rattle.lru_generations.proofs.loading.load_frames.Given as goal

-- the frames of the shards so far stood in their files, with their marks
abbrev pub invariant-loop-shard : goal.invariant-loop-shard
invariant-loop-shard g l =
    let F = g.F.Folder in
    let m : Meaning _ = F.meaning in
    let generation = l.fn.manifest.generation in
    let number = length l.fn.manifest.frames.items in
    record {
      count : length l.shards.items ≡ l.shard;
      marked : (shard : ℕ) (rows : List (Row _ _)) → slice_get (rows_of l.shards.items) shard ≡ Some rows
          → slice_get l.fn.manifest.frames.items shard ≡ Some (mark_of g.K.Stored.bytes_of g.V.Stored.bytes_of (part_header generation number shard) rows);
      found : F.meaning.keeps l.fn.folder → HasFrames g.K.Stored.bytes_of g.V.Stored.bytes_of l.fn.dir l.fn.file_name generation number (rows_of l.shards.items) (F.meaning.files l.fn.folder);
      fits : FitsEach g.K.Stored.is_value g.V.Stored.is_value generation number (rows_of l.shards.items);
      files : F.meaning.keeps l.fn.folder → F.meaning.files l.folder ≡ F.meaning.files l.fn.folder;
      touches : F.meaning.keeps l.fn.folder → TouchesNothing m l.fn.folder l.folder;
      quiet : F.meaning.keeps l.fn.folder → F.meaning.faults l.folder ≡ F.meaning.faults l.fn.folder;
      places : F.meaning.keeps l.fn.folder → F.meaning.folders l.folder ≡ F.meaning.folders l.fn.folder;
      kept : (F.meaning.keeps l.fn.folder → F.meaning.keeps l.folder) × (F.meaning.keeps l.folder → F.meaning.keeps l.fn.folder);
    }
