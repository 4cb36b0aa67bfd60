use Rattle.lru_async_tests.proofs.saves.each_shard_is_handed_on_once_and_counted.Given as goal

abbrev pub ghosts-all_found-B-Archive : goal.ghosts-all_found-B-Archive
ghosts-all_found-B-Archive g a = record { log = a.blank.tie.table.shared.table_id; shards = 3 }
