use Rattle.lru_async_tests.proofs.ledgers.are_turns_told.Given as goal

abbrev pub ghosts-turns_of_two : goal.ghosts-turns_of_two
ghosts-turns_of_two g a = record { puts = a.blanks.puts.tie.table.shared.table_id; takes = a.blanks.takes.tie.table.shared.table_id; putters = 2; takers = 2 }
