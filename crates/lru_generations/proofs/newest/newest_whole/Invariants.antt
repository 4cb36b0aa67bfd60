use Rattle.std.proofs.Common.{◌≡◌, take}
use Rattle.std.specs.Prelude.{Contains, option_copied}
use Rattle.lru_folder.specs.Meaning.{Meaning}
use Rattle.lru_generations.specs.Touching.{TouchesNothing}
use Rattle.lru_generations.specs.Loads.{IsFault, IsRefused, IsRefusedByCheck}
use Rattle.lru_generations.specs.declared.newest.Passed.{Passed}
use Rattle.lru_generations.specs.Newest.{IsTakenAt}
use Rattle.lru_generations.proofs.Passing.{NoneOf, numbers_of}
use Rattle.lru_generations.proofs.newest.newest_whole.Given as goal

-- those so far were passed over, and none is whole
abbrev pub invariant-loop-generation : goal.invariant-loop-generation
invariant-loop-generation g l =
    let F = g.F.Folder in
    let m : Meaning _ = F.meaning in
    record {
      front : numbers_of l.passed.items ≡ take l.generation-index l.generations;
      none : F.meaning.keeps l.fn.folder → NoneOf (IsTakenAt l.fn.dir l.fn.file_name (F.meaning.files l.fn.folder) (option_copied l.fn.known)) l.generations l.generation-index;
      unblamed : (one : Passed) → Contains l.passed.items one → ¬ IsFault one.error;
      refused : F.meaning.keeps l.fn.folder → (one : Passed) → Contains l.passed.items one
          → IsRefused m (IsRefusedByCheck m l.fn.dir l.fn.file_name) l.fn.dir l.fn.file_name one.generation l.fn.folder l.folder one.error;
      files : F.meaning.keeps l.fn.folder → F.meaning.files l.folder ≡ F.meaning.files l.fn.folder;
      touches : F.meaning.keeps l.fn.folder → TouchesNothing m l.fn.folder l.folder;
      quiet : F.meaning.keeps l.fn.folder → F.meaning.faults l.folder ≡ F.meaning.faults l.fn.folder;
      places : F.meaning.keeps l.fn.folder → F.meaning.folders l.folder ≡ F.meaning.folders l.fn.folder;
      kept : (F.meaning.keeps l.fn.folder → F.meaning.keeps l.folder) × (F.meaning.keeps l.folder → F.meaning.keeps l.fn.folder);
    }
