use Rattle.std.proofs.Common.{◌≡◌, ◌<◌, ℕ, List, length, Some, slice_get}
use Rattle.std.specs.FinMap.{get}
use Rattle.lru_folder.specs.Meaning.{Meaning}
use Rattle.lru_frames.specs.declared.mark.Mark.{Mark}
use Rattle.lru_generations.specs.Manifests.{part_header}
use Rattle.lru_generations.specs.Names.{frame_path}
use Rattle.lru_generations.specs.Touching.{TouchesNothing}
use Rattle.lru_generations.specs.Checkpoints.{IsWholeFrame}
use Rattle.lru_generations.proofs.checking.check_frames.Given as goal

-- the frames of the shards so far stood whole in their files
abbrev pub invariant-loop-shard : goal.invariant-loop-shard
invariant-loop-shard g l =
    let F = g.F.Folder in
    let m : Meaning _ = F.meaning in
    let marks = l.fn.manifest.frames.items in
    record {
      found : F.meaning.keeps l.fn.folder → (shard : ℕ) (mark : Mark) → shard < l.shard → slice_get marks shard ≡ Some mark
          → (bytes : List ℕ) × ((get (F.meaning.files l.fn.folder) (frame_path l.fn.dir l.fn.file_name l.fn.manifest.generation shard) ≡ Some bytes)
          × IsWholeFrame (part_header l.fn.manifest.generation (length marks) shard) mark bytes);
      files : F.meaning.keeps l.fn.folder → F.meaning.files l.folder ≡ F.meaning.files l.fn.folder;
      touches : F.meaning.keeps l.fn.folder → TouchesNothing m l.fn.folder l.folder;
      quiet : F.meaning.keeps l.fn.folder → F.meaning.faults l.folder ≡ F.meaning.faults l.fn.folder;
      places : F.meaning.keeps l.fn.folder → F.meaning.folders l.folder ≡ F.meaning.folders l.fn.folder;
      kept : (F.meaning.keeps l.fn.folder → F.meaning.keeps l.folder) × (F.meaning.keeps l.folder → F.meaning.keeps l.fn.folder);
    }
