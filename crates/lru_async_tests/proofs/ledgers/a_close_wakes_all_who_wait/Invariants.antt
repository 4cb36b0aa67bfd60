use Rattle.lru_async_tests.proofs.ledgers.a_close_wakes_all_who_wait.Given as goal

abbrev pub ghosts-two_wait : goal.ghosts-two_wait
ghosts-two_wait g a = record { puts = a.blanks.puts.tie.table.shared.table_id; takes = a.blanks.takes.tie.table.shared.table_id; putters = 1; takers = 2 }
