use Rattle.std.proofs.Common.{◌≡◌, take}
use Rattle.std.specs.Prelude.{Contains, map}
use Rattle.lru_folder.specs.Meaning.{Meaning}
use Rattle.lru_generations.specs.Touching.{TouchesNothing}
use Rattle.lru_generations.specs.declared.generation_checks.FoundGeneration.{FoundGeneration}
use Rattle.lru_generations.specs.Told.{IsTold}
use Rattle.lru_generations.proofs.generation_checks.tell_each.Given as goal

-- those so far were told of
abbrev pub invariant-loop-generation : goal.invariant-loop-generation
invariant-loop-generation g l =
    let F = g.F.Folder in
    let m : Meaning _ = F.meaning in
    record {
      all : map (λ one. one.generation) l.told.items ≡ take l.generation-index l.generations;
      each : F.meaning.keeps l.fn.folder → (one : FoundGeneration) → Contains l.told.items one → IsTold l.fn.dir l.fn.file_name m l.fn.folder l.folder one.generation one.shards;
      files : F.meaning.keeps l.fn.folder → F.meaning.files l.folder ≡ F.meaning.files l.fn.folder;
      touches : F.meaning.keeps l.fn.folder → TouchesNothing m l.fn.folder l.folder;
      quiet : F.meaning.keeps l.fn.folder → F.meaning.faults l.folder ≡ F.meaning.faults l.fn.folder;
      places : F.meaning.keeps l.fn.folder → F.meaning.folders l.folder ≡ F.meaning.folders l.fn.folder;
      kept : (F.meaning.keeps l.fn.folder → F.meaning.keeps l.folder) × (F.meaning.keeps l.folder → F.meaning.keeps l.fn.folder);
    }
