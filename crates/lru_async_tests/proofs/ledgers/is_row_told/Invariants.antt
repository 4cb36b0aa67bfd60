use Rattle.lru_async_tests.proofs.ledgers.is_row_told.Given as goal

abbrev pub ghosts-row_of_one : goal.ghosts-row_of_one
ghosts-row_of_one g a = record { puts = a.blanks.puts.tie.table.shared.table_id; takes = a.blanks.takes.tie.table.shared.table_id; putters = 1; takers = 1 }
