use Rattle.lru_async_tests.proofs.ledgers.are_two_and_two_told.Given as goal

abbrev pub ghosts-two_and_two : goal.ghosts-two_and_two
ghosts-two_and_two g a = record { puts = a.blanks.puts.tie.table.shared.table_id; takes = a.blanks.takes.tie.table.shared.table_id; putters = 2; takers = 2 }
