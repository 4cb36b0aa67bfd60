use Rattle.lru_cores_tests.proofs.recorded_draws.removed_of_two.Given as goal

abbrev pub ghosts-remove_and_evict : goal.ghosts-remove_and_evict
ghosts-remove_and_evict g a = record { table = a.blank.tie.table.shared.table_id; seats = 1 }
