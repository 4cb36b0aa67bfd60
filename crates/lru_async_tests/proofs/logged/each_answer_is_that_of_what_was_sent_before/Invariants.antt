use Rattle.lru_async_tests.proofs.logged.each_answer_is_that_of_what_was_sent_before.Given as goal

abbrev pub ghosts-all_calls-B-Archive : goal.ghosts-all_calls-B-Archive
ghosts-all_calls-B-Archive g a = record { log = a.blank.tie.table.shared.table_id; shards = 1 }
