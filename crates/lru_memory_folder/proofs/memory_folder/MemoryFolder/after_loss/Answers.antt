use Rattle.std.proofs.Common.{subst}
use Rattle.lru_memory_folder.specs.History.{files_left}
use Rattle.lru_memory_folder.specs.Kept.{IsMarked}
use Rattle.lru_memory_folder.specs.Memory.{Memory, clock_of, lost_since_of, loss_kept}
use Rattle.lru_memory_folder.specs.MemoryInside.{memory_of}
use Rattle.lru_memory_folder.proofs.KeptLemmas.{marked_lost}
use Rattle.lru_memory_folder.proofs.memory_folder.MemoryFolder.after_loss.Goals as goal

pub returns-clause-files : goal.returns-clause-files
returns-clause-files c =
    let files = files_left c.in_ok-after_loss.field-0.journal in
    subst (λ (m : Memory). IsMarked c.args.byte (loss_kept c.args.names m) files) c.self.view_is c.in_ok-after_loss.ensures.files

pub returns-clause-lost : goal.returns-clause-lost
returns-clause-lost c =
    let files = files_left c.in_ok-after_loss.field-0.journal in
    subst (λ (m : Memory). lost_since_of m (clock_of m) files) c.self.view_is (marked_lost c.args.names c.args.byte (memory_of c.self.inside) files c.in_ok-after_loss.ensures.files)
