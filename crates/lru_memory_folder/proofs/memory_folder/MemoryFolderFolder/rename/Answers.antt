use Rattle.std.proofs.Common.{refl, ap, is_some}
use Rattle.lru_memory_folder.specs.Calls.{Renames}
use Rattle.lru_memory_folder.specs.MadeInside.{texts_of}
use Rattle.lru_memory_folder.specs.Plans.{nothing}
use Rattle.std.specs.FinMap.{get}
use Rattle.lru_memory_folder.specs.Memory.{files_of}
use Rattle.lru_memory_folder.proofs.MemoryLemmas.{passes, planned, did, on_ok, is_here}
use Rattle.lru_memory_folder.proofs.MemoryLosses.{loses, settled, handed}
use Rattle.lru_memory_folder.proofs.memory_folder.MemoryFolderFolder.rename.Goals as goal

pub returns-clause-time : goal.returns-clause-time
returns-clause-time c = passes (λ m. Renames c.args.from.now c.args.to.now) _ _ _ _ c.rename.result c.self.view_is c.rename.ensures.goes

pub returns-clause-planned : goal.returns-clause-planned
returns-clause-planned c =
    planned (λ m. nothing) (λ m. Renames c.args.from.now c.args.to.now) _ c.next_fate-fate.result _ _ _ c.rename.result c.self.view_is (λ part m. refl) (λ some. ap (λ v. texts_of v.items) c.rename.ensures.made)
    c.next_fate-fate.ensures.fate c.next_fate-fate.ensures.counted c.rename.ensures.goes

pub returns-clause-done : goal.returns-clause-done
returns-clause-done c =
    on_ok _ _ c.rename.result (λ both. (is_here (files_of c.args.self.now) c.args.from.now both.0, both.1))
    (did (λ m. Renames c.args.from.now c.args.to.now) (λ m. is_some (get (files_of m) c.args.from.now)) c.next_fate-fate.result _ _ _ c.rename.result c.self.view_is c.rename.ensures.goes)

pub returns-clause-loss : goal.returns-clause-loss
returns-clause-loss c = loses (λ m. Renames c.args.from.now c.args.to.now) _ _ _ _ c.rename.result c.self.view_is c.rename.ensures.goes

pub returns-clause-settled : goal.returns-clause-settled
returns-clause-settled c =
    handed c.args.from.now c.args.to.now (get (files_of c.args.self.now) c.args.from.now) _ _ c.rename.result
    (on_ok _ _ c.rename.result (λ both. is_here (files_of c.args.self.now) c.args.from.now both.0)
    (did (λ m. Renames c.args.from.now c.args.to.now) (λ m. is_some (get (files_of m) c.args.from.now)) c.next_fate-fate.result _ _ _ c.rename.result c.self.view_is c.rename.ensures.goes))
    (settled (λ m. Renames c.args.from.now c.args.to.now) _ c.next_fate-fate.result _ _ _ c.rename.result c.self.view_is c.rename.ensures.goes)
