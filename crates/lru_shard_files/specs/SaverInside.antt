-- What a saver stands for, and what holds of its fields.
use Rattle.std.specs.Prelude.{◌≤◌, string_bytes, vec_len, vec_capacity}
use Rattle.lru_shard_files.specs.declared.shard_saver.ShardSaver.TheInside.{Inside}
use Rattle.lru_shard_files.specs.Progress.{Progress}

abbrev pub progress_of : {E : Type 0} → Inside E → Progress E
progress_of s = record { dir = string_bytes s.dir_path; file_name = string_bytes s.file_name; shards = s.shards; next = s.next; failures = s.failures.items }

-- there is room for a failure of each shard that is left
pub record IsSound {E : Type 0} (s : Inside E) : Type 0 where
  pub turns : s.next ≤ s.shards
  pub failed : vec_len s.failures ≤ s.next
  pub room : s.shards ≤ vec_capacity s.failures
