use Rattle.lru_cores_tests.proofs.recorded_handed.handed.Given as goal

abbrev pub ghosts-handed_by : goal.ghosts-handed_by
ghosts-handed_by g a = record { table = a.blank.tie.table.shared.table_id; seats = 1 }
