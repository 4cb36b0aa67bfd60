use Rattle.lru_bench.proofs.actors.measure.Given as goal

abbrev pub ghosts-measure_box : goal.ghosts-measure_box
ghosts-measure_box g a = record { puts = a.blanks.puts.tie.table.shared.table_id; takes = a.blanks.takes.tie.table.shared.table_id; putters = 1; takers = 1 }
