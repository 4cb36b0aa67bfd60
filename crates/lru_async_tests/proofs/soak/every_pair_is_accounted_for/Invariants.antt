use Rattle.lru_async_tests.proofs.soak.every_pair_is_accounted_for.Given as goal

abbrev pub ghosts-soaked-B-BoxRegistry : goal.ghosts-soaked-B-BoxRegistry
ghosts-soaked-B-BoxRegistry g a = record { puts = a.blanks.puts.tie.table.shared.table_id; takes = a.blanks.takes.tie.table.shared.table_id; putters = 4; takers = 2 }
