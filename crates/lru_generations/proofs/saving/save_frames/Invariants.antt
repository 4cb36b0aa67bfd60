use Rattle.std.proofs.Common.{◌≡◌, ℕ, List, Some, length, slice_get}
use Rattle.lru_folder.specs.Meaning.{Meaning}
use Rattle.lru_frames.specs.declared.row.Row.{Row}
use Rattle.lru_generations.specs.Touching.{TouchesOnly}
use Rattle.lru_generations.specs.Checkpoints.{Shards, AreFirm, AreMarked, FitsEach, HasFrames, IsFrame}
use Rattle.lru_generations.proofs.saving.save_frames.Given as goal

-- the frames of the shards so far stand in their files, and no loss of power changes them
abbrev pub invariant-loop-shard : goal.invariant-loop-shard
invariant-loop-shard g l =
    let F = g.F.Folder in
    let m : Meaning _ = F.meaning in
    let count = g.S.Source.count l.fn.source in
    record {
      saved : (shards : Shards _ _) × ((length shards ≡ l.shard) × (((shard : ℕ) (rows : List (Row _ _)) → slice_get shards shard ≡ Some rows → g.S.Source.hands_out l.fn.source shard rows)
          × (AreMarked g.K.Stored.bytes_of g.V.Stored.bytes_of l.fn.generation count shards l.marks.items × (FitsEach g.K.Stored.is_value g.V.Stored.is_value l.fn.generation count shards
          × (F.meaning.keeps l.fn.folder → HasFrames g.K.Stored.bytes_of g.V.Stored.bytes_of l.fn.dir l.fn.file_name l.fn.generation count shards (F.meaning.files l.folder)
          × AreFirm l.fn.dir l.fn.file_name l.fn.generation l.shard (F.meaning.loose l.folder))))));
      touches : F.meaning.keeps l.fn.folder → TouchesOnly m (IsFrame l.fn.dir l.fn.file_name l.fn.generation) l.fn.folder l.folder;
      quiet : F.meaning.keeps l.fn.folder → F.meaning.faults l.folder ≡ F.meaning.faults l.fn.folder;
      places : F.meaning.keeps l.fn.folder → F.meaning.folders l.folder ≡ F.meaning.folders l.fn.folder;
      kept : (F.meaning.keeps l.fn.folder → F.meaning.keeps l.folder) × (F.meaning.keeps l.folder → F.meaning.keeps l.fn.folder);
    }
