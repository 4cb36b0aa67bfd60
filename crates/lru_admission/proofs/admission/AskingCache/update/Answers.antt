use Rattle.lru_admission.proofs.admission.AskingCache.update.Goals as goal

-- the key stands for itself
pub returns-clause-cache : goal.returns-clause-cache
returns-clause-cache g c = rw (← c.self.view_is) c.update_hashed.ensures
