use Rattle.std.proofs.Common.{◌≡◌, take}
use Rattle.std.specs.Prelude.{Contains}
use Rattle.lru_folder.specs.Meaning.{Meaning}
use Rattle.lru_generations.specs.Touching.{TouchesNothing}
use Rattle.lru_generations.specs.Loads.{IsFault, IsRefused, IsRefusedFrame}
use Rattle.lru_generations.specs.declared.newest.Passed.{Passed}
use Rattle.lru_generations.specs.Loaded.{IsReadable}
use Rattle.lru_generations.proofs.Passing.{NoneOf, numbers_of}
use Rattle.lru_generations.proofs.newest_loading.load_newest.Given as goal

-- those so far were passed over, and none can be read
abbrev pub invariant-loop-generation : goal.invariant-loop-generation
invariant-loop-generation g l =
    let F = g.F.Folder in
    let m : Meaning _ = F.meaning in
    let K = g.K.Stored in
    let V = g.V.Stored in
    record {
      front : numbers_of l.passed.items ≡ take l.generation-index l.generations;
      none : F.meaning.keeps l.fn.folder → NoneOf (IsReadable K.bytes_of K.is_value V.bytes_of V.is_value l.fn.dir l.fn.file_name (F.meaning.files l.fn.folder)) l.generations l.generation-index;
      unblamed : (one : Passed) → Contains l.passed.items one → ¬ IsFault one.error;
      refused : F.meaning.keeps l.fn.folder → (one : Passed) → Contains l.passed.items one
          → IsRefused m (IsRefusedFrame m K.bytes_of K.is_value V.bytes_of V.is_value l.fn.dir l.fn.file_name) l.fn.dir l.fn.file_name one.generation l.fn.folder l.folder one.error;
      files : F.meaning.keeps l.fn.folder → F.meaning.files l.folder ≡ F.meaning.files l.fn.folder;
      touches : F.meaning.keeps l.fn.folder → TouchesNothing m l.fn.folder l.folder;
      quiet : F.meaning.keeps l.fn.folder → F.meaning.faults l.folder ≡ F.meaning.faults l.fn.folder;
      places : F.meaning.keeps l.fn.folder → F.meaning.folders l.folder ≡ F.meaning.folders l.fn.folder;
      kept : (F.meaning.keeps l.fn.folder → F.meaning.keeps l.folder) × (F.meaning.keeps l.folder → F.meaning.keeps l.fn.folder);
    }
