use Rattle.lru_cores_tests.proofs.recorded_threads.four_threads_over_four_shards.Given as goal

abbrev pub ghosts-four_threads : goal.ghosts-four_threads
ghosts-four_threads g a = record { table = a.blank.tie.table.shared.table_id; seats = 4 }
