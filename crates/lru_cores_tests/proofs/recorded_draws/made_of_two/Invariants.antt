use Rattle.lru_cores_tests.proofs.recorded_draws.made_of_two.Given as goal

abbrev pub ghosts-makes_data : goal.ghosts-makes_data
ghosts-makes_data g a = record { table = a.blank.tie.table.shared.table_id; seats = 1 }
