use Rattle.lru_cores_tests.proofs.recorded_draws.evicted_of_two.Given as goal

abbrev pub ghosts-evict_two : goal.ghosts-evict_two
ghosts-evict_two g a = record { table = a.blank.tie.table.shared.table_id; seats = 1 }
