use Rattle.lru_async_tests.proofs.waiting.who_waits_with_a_log_is_told.Given as goal

abbrev pub ghosts-asks_logged_in_vain-B-Archive : goal.ghosts-asks_logged_in_vain-B-Archive
ghosts-asks_logged_in_vain-B-Archive g a = record { log = a.blank.tie.table.shared.table_id; shards = 1 }
