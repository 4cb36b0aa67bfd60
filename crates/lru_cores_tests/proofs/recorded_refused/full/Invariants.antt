use Rattle.lru_cores_tests.proofs.recorded_refused.full.Given as goal

abbrev pub ghosts-refused_for_length : goal.ghosts-refused_for_length
ghosts-refused_for_length a = record { table = a.blank.tie.table.shared.table_id; seats = 1 }
