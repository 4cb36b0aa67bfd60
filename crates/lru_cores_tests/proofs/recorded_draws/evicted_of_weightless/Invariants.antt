use Rattle.lru_cores_tests.proofs.recorded_draws.evicted_of_weightless.Given as goal

abbrev pub ghosts-evict_of_weightless : goal.ghosts-evict_of_weightless
ghosts-evict_of_weightless g a = record { table = a.blank.tie.table.shared.table_id; seats = 1 }
