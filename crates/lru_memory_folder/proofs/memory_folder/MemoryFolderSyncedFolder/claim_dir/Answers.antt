use Rattle.std.proofs.Common.{◌∙◌, refl, ap}
use Rattle.lru_folder.specs.Files.{Files}
use Rattle.lru_memory_folder.specs.Calls.{Looks}
use Rattle.lru_memory_folder.specs.MadeInside.{texts_of}
use Rattle.lru_memory_folder.specs.Memory.{Memory}
use Rattle.lru_memory_folder.specs.OpenInside.{opened_in}
use Rattle.lru_memory_folder.specs.Plans.{nothing}
use Rattle.lru_memory_folder.proofs.MemoryLemmas.{looked, passes, planned}
use Rattle.lru_memory_folder.proofs.MemoryLosses.{loses}
use Rattle.lru_memory_folder.proofs.memory_folder.MemoryFolderSyncedFolder.claim_dir.Goals as goal

pub returns-clause-mode : goal.returns-clause-mode
returns-clause-mode c =
    let store = c.claim_dir.new.self in
    ap (λ (f : Files). opened_in f store.file) (looked _ c.self.inside.store.journal store.journal c.claim_dir.result c.claim_dir.ensures.goes)
    ∙ ap (opened_in _) c.claim_dir.ensures.mode ∙ ap (λ (m : Memory). m.opened) c.self.view_is

pub returns-clause-time : goal.returns-clause-time
returns-clause-time c = passes (λ m. Looks) _ _ _ _ c.claim_dir.result c.self.view_is c.claim_dir.ensures.goes

pub returns-clause-planned : goal.returns-clause-planned
returns-clause-planned c =
    planned (λ m. nothing) (λ m. Looks) _ c.next_fate-fate.result _ _ _ c.claim_dir.result c.self.view_is (λ part m. refl) (λ some. ap (λ v. texts_of v.items) c.claim_dir.ensures.made)
    c.next_fate-fate.ensures.fate c.next_fate-fate.ensures.counted c.claim_dir.ensures.goes

pub returns-clause-loss : goal.returns-clause-loss
returns-clause-loss c = loses (λ m. Looks) _ _ _ _ c.claim_dir.result c.self.view_is c.claim_dir.ensures.goes
