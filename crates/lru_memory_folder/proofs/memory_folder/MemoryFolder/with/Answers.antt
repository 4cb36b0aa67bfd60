use Rattle.std.proofs.Common.{◌∙◌, ap, subst}
use Rattle.std.specs.FinMap.{insert}
use Rattle.lru_folder.specs.Places.{folder_of, MakesAll}
use Rattle.lru_memory_folder.specs.MadeInside.{folders_in}
use Rattle.lru_memory_folder.specs.Memory.{Memory, files_of, folders_of}
use Rattle.lru_memory_folder.specs.History.{files_left}
use Rattle.lru_memory_folder.specs.OpenInside.{opened_in}
use Rattle.lru_memory_folder.proofs.memory_folder.MemoryFolder.with.Goals as goal

pub returns-clause-files : goal.returns-clause-files
returns-clause-files c = c.in_ok-with.ensures.files ∙ ap (λ (m : Memory). insert (files_of m) c.args.path.now c.args.bytes.now) c.self.view_is

pub returns-clause-folders : goal.returns-clause-folders
returns-clause-folders c = subst (λ (m : Memory). MakesAll (folder_of c.args.path.now) (folders_of m) (folders_in c.in_ok-with.field-0.made.items)) c.self.view_is c.in_ok-with.ensures.folders

pub returns-clause-begins : goal.returns-clause-begins
returns-clause-begins c = (
  c.in_ok-with.ensures.begins,
  ap (opened_in (files_left c.in_ok-with.field-0.journal)) c.in_ok-with.ensures.shut,
  ap (λ (m : Memory). m.plan) c.self.view_is,
)
