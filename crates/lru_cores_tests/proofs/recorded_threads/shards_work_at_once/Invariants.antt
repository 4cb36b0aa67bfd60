use Rattle.lru_cores_tests.proofs.recorded_threads.shards_work_at_once.Given as goal

abbrev pub ghosts-work_at_once : goal.ghosts-work_at_once
ghosts-work_at_once g a = record { table = a.blank.tie.table.shared.table_id; seats = 2 }
