use Rattle.std.proofs.Common.{refl, ap, ◌∙◌, true}
use Rattle.lru_memory_folder.specs.Calls.{Looks}
use Rattle.lru_memory_folder.specs.MadeInside.{texts_of}
use Rattle.lru_memory_folder.specs.Plans.{nothing}
use Rattle.lru_memory_folder.proofs.MemoryLemmas.{passes, planned, looked, reads}
use Rattle.lru_memory_folder.proofs.MemoryLosses.{loses}
use Rattle.lru_memory_folder.proofs.memory_folder.MemoryFolderFolder.read.Goals as goal

pub returns-clause-time : goal.returns-clause-time
returns-clause-time c = passes (λ m. Looks) _ _ _ _ c.read.result c.self.view_is c.read.ensures.goes

pub returns-clause-planned : goal.returns-clause-planned
returns-clause-planned c =
    planned (λ m. nothing) (λ m. Looks) true c.next_fate-fate.result _ _ _ c.read.result c.self.view_is (λ part m. refl) (λ some. ap (λ v. texts_of v.items) c.read.ensures.made)
    c.next_fate-fate.ensures.fate c.next_fate-fate.ensures.counted c.read.ensures.goes

pub returns-clause-done : goal.returns-clause-done
returns-clause-done c left is =
    let here = ap (λ m. m.opened) c.self.view_is ∙ is in
    reads c.args.max left _ _ c.read.new.self.file c.read.result (looked _ c.self.inside.store.journal c.read.new.self.journal c.read.result c.read.ensures.goes) (c.read.ensures.piece left here) (c.read.ensures.rest left here)

pub returns-clause-loss : goal.returns-clause-loss
returns-clause-loss c = loses (λ m. Looks) _ _ _ _ c.read.result c.self.view_is c.read.ensures.goes
