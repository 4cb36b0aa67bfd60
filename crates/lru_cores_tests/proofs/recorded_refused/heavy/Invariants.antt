use Rattle.lru_cores_tests.proofs.recorded_refused.heavy.Given as goal

abbrev pub ghosts-refused_for_weight : goal.ghosts-refused_for_weight
ghosts-refused_for_weight g a = record { table = a.blank.tie.table.shared.table_id; seats = 1 }
