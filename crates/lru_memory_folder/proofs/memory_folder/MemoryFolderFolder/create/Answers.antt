use Rattle.std.proofs.Common.{refl, ap}
use Rattle.lru_memory_folder.specs.Calls.{Creates}
use Rattle.lru_memory_folder.specs.MadeInside.{texts_of}
use Rattle.lru_memory_folder.specs.Plans.{nothing}
use Rattle.lru_folder.specs.Places.{folder_of, is_there}
use Rattle.lru_memory_folder.specs.Memory.{folders_of}
use Rattle.lru_memory_folder.proofs.MemoryLemmas.{passes, planned, did, with_mode}
use Rattle.lru_memory_folder.proofs.MemoryLosses.{loses}
use Rattle.lru_memory_folder.proofs.memory_folder.MemoryFolderFolder.create.Goals as goal

pub returns-clause-time : goal.returns-clause-time
returns-clause-time c = passes (λ m. Creates c.args.path.now) _ _ _ _ c.create.result c.self.view_is c.create.ensures.goes

pub returns-clause-planned : goal.returns-clause-planned
returns-clause-planned c =
    planned (λ m. nothing) (λ m. Creates c.args.path.now) _ c.next_fate-fate.result _ _ _ c.create.result c.self.view_is (λ part m. refl) (λ some. ap (λ v. texts_of v.items) c.create.ensures.made)
    c.next_fate-fate.ensures.fate c.next_fate-fate.ensures.counted c.create.ensures.goes

pub returns-clause-done : goal.returns-clause-done
returns-clause-done c =
    with_mode _ _ _ _ c.create.result (did (λ m. Creates c.args.path.now) (λ m. is_there (folders_of m) (folder_of c.args.path.now)) c.next_fate-fate.result _ _ _ c.create.result c.self.view_is c.create.ensures.goes)
    c.create.ensures.mode

pub returns-clause-loss : goal.returns-clause-loss
returns-clause-loss c = loses (λ m. Creates c.args.path.now) _ _ _ _ c.create.result c.self.view_is c.create.ensures.goes
