use Rattle.std.specs.Prelude.{OnOk}
use Rattle.std.proofs.Common.{refl, ap, subst, true}
use Rattle.lru_folder.specs.Places.{MakesAll, MakesSome}
use Rattle.lru_memory_folder.specs.Memory.{Memory, folders_of}
use Rattle.lru_memory_folder.specs.Calls.{Looks}
use Rattle.lru_memory_folder.specs.MadeInside.{folders_in, texts_of}
use Rattle.lru_memory_folder.specs.Plans.{nothing}
use Rattle.lru_memory_folder.proofs.MemoryLemmas.{passes, planned}
use Rattle.lru_memory_folder.proofs.MemoryLosses.{loses}
use Rattle.lru_memory_folder.proofs.memory_folder.MemoryFolderFolder.make.Goals as goal

pub returns-clause-time : goal.returns-clause-time
returns-clause-time c = passes (λ m. Looks) _ _ _ _ c.make.result c.self.view_is c.make.ensures.goes

pub returns-clause-planned : goal.returns-clause-planned
returns-clause-planned c =
    planned (λ m. nothing) (λ m. Looks) true c.next_fate-fate.result _ _ _ c.make.result c.self.view_is (λ part m. refl) (λ some. ap texts_of (c.make.ensures.none some))
    c.next_fate-fate.ensures.fate c.next_fate-fate.ensures.counted c.make.ensures.goes

pub returns-clause-loss : goal.returns-clause-loss
returns-clause-loss c = loses (λ m. Looks) _ _ _ _ c.make.result c.self.view_is c.make.ensures.goes

pub returns-clause-done : goal.returns-clause-done
returns-clause-done c = subst (λ (m : Memory). OnOk c.make.result (MakesAll c.args.dir.now (folders_of m) (folders_in c.make.new.self.made.items))) c.self.view_is c.make.ensures.all

pub returns-clause-part : goal.returns-clause-part
returns-clause-part c = subst (λ (m : Memory). MakesSome c.args.dir.now (folders_of m) (folders_in c.make.new.self.made.items)) c.self.view_is c.make.ensures.some
