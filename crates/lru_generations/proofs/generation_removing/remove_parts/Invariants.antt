use Rattle.std.proofs.Common.{◌≡◌, ◌<◌, ℕ, List, None, get_or}
use Rattle.std.specs.FinMap.{get}
use Rattle.lru_folder.specs.Meaning.{Meaning}
use Rattle.lru_generations.specs.declared.names.PartName.TheVariants.{Frame}
use Rattle.lru_generations.specs.Names.{part_path}
use Rattle.lru_generations.specs.Touching.{TouchesOnly}
use Rattle.lru_generations.specs.Removing.{IsPathOf}
use Rattle.lru_generations.proofs.generation_removing.remove_parts.Given as goal

-- the files of the parts so far are gone
abbrev pub invariant-loop-part : goal.invariant-loop-part
invariant-loop-part g l =
    let F = g.F.Folder in
    let m : Meaning _ = F.meaning in
    record {
      gone : F.meaning.keeps l.fn.folder → (k : ℕ) → k < l.part-index → get (F.meaning.files l.folder) (part_path l.fn.dir l.fn.file_name (get_or l.parts k (Frame 0 0))) ≡ None;
      touches : F.meaning.keeps l.fn.folder → TouchesOnly m (IsPathOf l.fn.dir l.fn.file_name l.parts) l.fn.folder l.folder;
      firm : F.meaning.keeps l.fn.folder → (q : List ℕ) → F.meaning.loose l.folder q → F.meaning.loose l.fn.folder q;
      quiet : F.meaning.keeps l.fn.folder → F.meaning.faults l.folder ≡ F.meaning.faults l.fn.folder;
      places : F.meaning.keeps l.fn.folder → F.meaning.folders l.folder ≡ F.meaning.folders l.fn.folder;
      kept : (F.meaning.keeps l.fn.folder → F.meaning.keeps l.folder) × (F.meaning.keeps l.folder → F.meaning.keeps l.fn.folder);
    }
