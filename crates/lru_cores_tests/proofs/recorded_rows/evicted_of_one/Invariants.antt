use Rattle.lru_cores_tests.proofs.recorded_rows.evicted_of_one.Given as goal

abbrev pub ghosts-evict_rows : goal.ghosts-evict_rows
ghosts-evict_rows g a = record { table = a.blank.tie.table.shared.table_id; seats = 1 }
