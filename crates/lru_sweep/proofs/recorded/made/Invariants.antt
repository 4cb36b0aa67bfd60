use Rattle.lru_sweep.proofs.recorded.made.Given as goal

abbrev pub ghosts-run : goal.ghosts-run
ghosts-run g a = record { table = a.blank.tie.table.shared.table_id; seats = 1 }
