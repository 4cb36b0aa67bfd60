use Rattle.lru_cores_tests.proofs.recorded_threads.two_callers_on_two_shards.Given as goal

abbrev pub ghosts-two_threads : goal.ghosts-two_threads
ghosts-two_threads g a = record { table = a.blank.tie.table.shared.table_id; seats = 2 }
