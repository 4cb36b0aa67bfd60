use Rattle.lru_async_tests.proofs.ledgers.wakes_who_waits.Given as goal

abbrev pub ghosts-across : goal.ghosts-across
ghosts-across g a = record { puts = a.blanks.puts.tie.table.shared.table_id; takes = a.blanks.takes.tie.table.shared.table_id; putters = 1; takers = 1 }
