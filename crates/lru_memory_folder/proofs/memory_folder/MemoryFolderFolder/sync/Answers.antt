use Rattle.std.proofs.Common.{refl, ap, true}
use Rattle.lru_memory_folder.specs.Calls.{Syncs}
use Rattle.lru_folder.specs.Folder.{written_path}
use Rattle.lru_memory_folder.specs.MadeInside.{texts_of}
use Rattle.lru_memory_folder.specs.Plans.{nothing}
use Rattle.lru_memory_folder.proofs.MemoryLemmas.{passes, planned}
use Rattle.lru_memory_folder.proofs.MemoryLosses.{loses, synced}
use Rattle.lru_memory_folder.proofs.memory_folder.MemoryFolderFolder.sync.Goals as goal

pub returns-clause-time : goal.returns-clause-time
returns-clause-time c = passes (λ m. Syncs (written_path m.opened)) _ _ _ _ c.sync.result c.self.view_is c.sync.ensures.goes

pub returns-clause-planned : goal.returns-clause-planned
returns-clause-planned c =
    planned (λ m. nothing) (λ m. Syncs (written_path m.opened)) true c.next_fate-fate.result _ _ _ c.sync.result c.self.view_is (λ part m. refl) (λ some. ap (λ v. texts_of v.items) c.sync.ensures.made)
    c.next_fate-fate.ensures.fate c.next_fate-fate.ensures.counted c.sync.ensures.goes

pub returns-clause-loss : goal.returns-clause-loss
returns-clause-loss c = loses (λ m. Syncs (written_path m.opened)) _ _ _ _ c.sync.result c.self.view_is c.sync.ensures.goes

pub returns-clause-done : goal.returns-clause-done
returns-clause-done c = synced (λ m. written_path m.opened) c.next_fate-fate.result _ _ _ c.sync.result c.self.view_is c.sync.ensures.goes
