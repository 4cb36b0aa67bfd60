use Rattle.lru_async_tests.proofs.running.a_pair_in_a_box_is_called_while_it_is_open.Given as goal

abbrev pub ghosts-called_soon-B-BoxRegistry : goal.ghosts-called_soon-B-BoxRegistry
ghosts-called_soon-B-BoxRegistry g a = record { puts = a.blanks.puts.tie.table.shared.table_id; takes = a.blanks.takes.tie.table.shared.table_id; putters = 1; takers = 1 }
