use Rattle.lru_cores_tests.proofs.recorded_draws.evicted_of_heavy.Given as goal

abbrev pub ghosts-evict_of_heavy : goal.ghosts-evict_of_heavy
ghosts-evict_of_heavy g a = record { table = a.blank.tie.table.shared.table_id; seats = 1 }
