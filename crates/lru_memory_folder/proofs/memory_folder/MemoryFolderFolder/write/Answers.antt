use Rattle.std.proofs.Common.{refl, ap, true}
use Rattle.lru_memory_folder.specs.Calls.{Writes}
use Rattle.lru_memory_folder.specs.MadeInside.{texts_of}
use Rattle.lru_memory_folder.specs.Plans.{front_of}
use Rattle.lru_folder.specs.Folder.{written_path}
use Rattle.lru_memory_folder.proofs.MemoryLemmas.{passes, planned, did, on_ok}
use Rattle.lru_memory_folder.proofs.MemoryLosses.{loses}
use Rattle.lru_memory_folder.proofs.memory_folder.MemoryFolderFolder.write.Goals as goal

pub returns-clause-time : goal.returns-clause-time
returns-clause-time c = passes (λ m. Writes (written_path m.opened) c.args.piece.now) _ _ _ _ c.write.result c.self.view_is c.write.ensures.goes

pub returns-clause-planned : goal.returns-clause-planned
returns-clause-planned c =
    planned (λ m. front_of m.opened c.args.piece.now) (λ m. Writes (written_path m.opened) c.args.piece.now) true c.next_fate-fate.result _ _ _ c.write.result c.self.view_is (λ part m. refl) (λ some. ap (λ v. texts_of v.items) c.write.ensures.made)
    c.next_fate-fate.ensures.fate c.next_fate-fate.ensures.counted c.write.ensures.goes

pub returns-clause-done : goal.returns-clause-done
returns-clause-done c =
    on_ok _ _ c.write.result (λ both. both.1) (did (λ m. Writes (written_path m.opened) c.args.piece.now) (λ m. true) c.next_fate-fate.result _ _ _ c.write.result c.self.view_is c.write.ensures.goes)

pub returns-clause-loss : goal.returns-clause-loss
returns-clause-loss c = loses (λ m. Writes (written_path m.opened) c.args.piece.now) _ _ _ _ c.write.result c.self.view_is c.write.ensures.goes
