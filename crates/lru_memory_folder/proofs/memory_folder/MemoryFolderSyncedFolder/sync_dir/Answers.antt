use Rattle.std.proofs.Common.{◌∙◌, refl, sym, ap}
use Rattle.lru_folder.specs.Files.{Files, Same}
use Rattle.lru_folder.specs.Folder.{Passes}
use Rattle.lru_memory_folder.specs.Calls.{SyncsNames}
use Rattle.lru_memory_folder.specs.MadeInside.{texts_of}
use Rattle.lru_memory_folder.specs.Memory.{Memory, files_of}
use Rattle.lru_memory_folder.specs.MemoryLaws.{memory_meaning}
use Rattle.lru_memory_folder.specs.OpenInside.{opened_in}
use Rattle.lru_memory_folder.specs.Plans.{nothing}
use Rattle.lru_memory_folder.proofs.MemoryLemmas.{passes, planned}
use Rattle.lru_memory_folder.proofs.MemoryLosses.{loses, names_synced}
use Rattle.lru_memory_folder.proofs.memory_folder.MemoryFolderSyncedFolder.sync_dir.Goals as goal

pub returns-clause-mode : goal.returns-clause-mode
returns-clause-mode c =
    let now : Memory = c.args.self.now in
    let store = c.sync_dir.new.self in
    let later : Memory = record { begun = store.journal.begun; calls = store.journal.calls; made = now.made; opened = now.opened; plan = now.plan; last = now.last; elsewhere = now.elsewhere } in
    let time : Passes memory_meaning Same now later = passes (λ m. SyncsNames c.args.dir.now) _ _ _ _ c.sync_dir.result c.self.view_is c.sync_dir.ensures.goes in
    ap (λ (f : Files). opened_in f store.file) (time.leaves ∙ sym (ap files_of c.self.view_is)) ∙ ap (opened_in _) c.sync_dir.ensures.mode ∙ ap (λ (m : Memory). m.opened) c.self.view_is

pub returns-clause-time : goal.returns-clause-time
returns-clause-time c = passes (λ m. SyncsNames c.args.dir.now) _ _ _ _ c.sync_dir.result c.self.view_is c.sync_dir.ensures.goes

pub returns-clause-planned : goal.returns-clause-planned
returns-clause-planned c =
    planned (λ m. nothing) (λ m. SyncsNames c.args.dir.now) _ c.next_fate-fate.result _ _ _ c.sync_dir.result c.self.view_is (λ part m. refl) (λ some. ap (λ v. texts_of v.items) c.sync_dir.ensures.made)
    c.next_fate-fate.ensures.fate c.next_fate-fate.ensures.counted c.sync_dir.ensures.goes

pub returns-clause-loss : goal.returns-clause-loss
returns-clause-loss c = loses (λ m. SyncsNames c.args.dir.now) _ _ _ _ c.sync_dir.result c.self.view_is c.sync_dir.ensures.goes

pub returns-clause-done : goal.returns-clause-done
returns-clause-done c =
    let now : Memory = c.args.self.now in
    let store = c.sync_dir.new.self in
    let later : Memory = record { begun = store.journal.begun; calls = store.journal.calls; made = now.made; opened = now.opened; plan = now.plan; last = now.last; elsewhere = now.elsewhere } in
    names_synced c.args.dir.now _ c.next_fate-fate.result _ _ later c.sync_dir.result c.self.view_is c.sync_dir.ensures.goes
