use Rattle.lru_memory_folder.proofs.store.Store.create.Goals as goal

pub returns-clause-goes : goal.returns-clause-goes
returns-clause-goes c =
    rw (← c.folder_of.ensures, ← c.deref.ensures.value, ← c.is_there-found.ensures, ← c.in_ok-from_str.ensures.ok) c.in_ok-conclude.ensures
