use Rattle.lru_cores_tests.proofs.recorded_rows.row_of_one.Given as goal

abbrev pub ghosts-one_caller : goal.ghosts-one_caller
ghosts-one_caller g a = record { table = a.blank.tie.table.shared.table_id; seats = 1 }
