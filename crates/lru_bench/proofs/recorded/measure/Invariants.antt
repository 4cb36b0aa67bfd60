use Rattle.lru_bench.proofs.recorded.measure.Given as goal

abbrev pub ghosts-record : goal.ghosts-record
ghosts-record g a = record { table = a.blank.tie.table.shared.table_id; seats = 1 }
