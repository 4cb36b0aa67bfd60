use Rattle.std.proofs.Common.{◌≡◌, ◌-◌, ◌++◌, ℕ, List, vec_len}
use Rattle.lru_folder.specs.Folder.{IsReading, Reading}
use Rattle.lru_generations.specs.Touching.{TouchesNothing}
use Rattle.lru_generations.proofs.file_reading.read_opened.Given as goal

abbrev pub invariant-loop-folder : goal.invariant-loop-folder
invariant-loop-folder g l = record {
  mode : IsReading (g.F.Folder.opened l.folder);
  whole : g.F.Folder.meaning.keeps l.fn.folder → (left : List ℕ) → g.F.Folder.opened l.fn.folder ≡ Reading left
      → (rest : List ℕ) × (g.F.Folder.opened l.folder ≡ Reading rest) × (left ≡ l.bytes.items ++ rest);
  files : g.F.Folder.meaning.keeps l.fn.folder → g.F.Folder.meaning.files l.folder ≡ g.F.Folder.meaning.files l.fn.folder;
  quiet : g.F.Folder.meaning.keeps l.fn.folder → g.F.Folder.meaning.faults l.folder ≡ g.F.Folder.meaning.faults l.fn.folder;
  touches : g.F.Folder.meaning.keeps l.fn.folder → TouchesNothing g.F.Folder.meaning l.fn.folder l.folder;
  places : g.F.Folder.meaning.keeps l.fn.folder → g.F.Folder.meaning.folders l.folder ≡ g.F.Folder.meaning.folders l.fn.folder;
  kept : (g.F.Folder.meaning.keeps l.fn.folder → g.F.Folder.meaning.keeps l.folder) × (g.F.Folder.meaning.keeps l.folder → g.F.Folder.meaning.keeps l.fn.folder);
}

abbrev pub decreases-loop-folder : goal.decreases-loop-folder
decreases-loop-folder g l = l.len - vec_len l.bytes
