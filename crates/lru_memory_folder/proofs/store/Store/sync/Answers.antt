use Rattle.lru_memory_folder.proofs.store.Store.sync.Goals as goal

pub returns-clause-goes : goal.returns-clause-goes
returns-clause-goes c = rw (c.in-Writing.is, ← c.as_str.ensures.value, ← c.in_ok-from_str.ensures.ok) c.conclude.ensures
