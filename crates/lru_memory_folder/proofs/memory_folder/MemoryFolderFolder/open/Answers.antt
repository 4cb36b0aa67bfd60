use Rattle.std.proofs.Common.{refl, ap}
use Rattle.lru_memory_folder.specs.Calls.{Looks}
use Rattle.lru_memory_folder.specs.MadeInside.{texts_of}
use Rattle.lru_memory_folder.specs.Plans.{nothing}
use Rattle.lru_memory_folder.proofs.MemoryLemmas.{passes, planned, opens}
use Rattle.lru_memory_folder.proofs.MemoryLosses.{loses}
use Rattle.lru_memory_folder.proofs.memory_folder.MemoryFolderFolder.open.Goals as goal

pub returns-clause-time : goal.returns-clause-time
returns-clause-time c = passes (λ m. Looks) _ _ _ _ c.open.result c.self.view_is c.open.ensures.goes

pub returns-clause-planned : goal.returns-clause-planned
returns-clause-planned c =
    planned (λ m. nothing) (λ m. Looks) _ c.next_fate-fate.result _ _ _ c.open.result c.self.view_is (λ part m. refl) (λ some. ap (λ v. texts_of v.items) c.open.ensures.made)
    c.next_fate-fate.ensures.fate c.next_fate-fate.ensures.counted c.open.ensures.goes

pub returns-clause-done : goal.returns-clause-done
returns-clause-done c =
    opens c.next_fate-fate.result c.args.path.now _ _ _ c.open.new.self.file c.open.result c.self.view_is c.open.ensures.goes c.open.ensures.len c.open.ensures.mode

pub returns-clause-loss : goal.returns-clause-loss
returns-clause-loss c = loses (λ m. Looks) _ _ _ _ c.open.result c.self.view_is c.open.ensures.goes
