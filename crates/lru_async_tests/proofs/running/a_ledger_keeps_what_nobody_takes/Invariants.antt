use Rattle.lru_async_tests.proofs.running.a_ledger_keeps_what_nobody_takes.Given as goal

abbrev pub ghosts-untaken-B-BoxRegistry : goal.ghosts-untaken-B-BoxRegistry
ghosts-untaken-B-BoxRegistry g a = record { puts = a.blanks.puts.tie.table.shared.table_id; takes = a.blanks.takes.tie.table.shared.table_id; putters = 1; takers = 0 }
