use Rattle.lru_async_tests.proofs.accounts.what_nobody_takes_is_handed_back_with_its_keys.Given as goal

abbrev pub ghosts-closed-B-BoxRegistry : goal.ghosts-closed-B-BoxRegistry
ghosts-closed-B-BoxRegistry g a = record { puts = a.blanks.puts.tie.table.shared.table_id; takes = a.blanks.takes.tie.table.shared.table_id; putters = 1; takers = 0 }

abbrev pub ghosts-closed-B-Archive : goal.ghosts-closed-B-Archive
ghosts-closed-B-Archive g a = record { log = a.blank.tie.table.shared.table_id; shards = 1 }
