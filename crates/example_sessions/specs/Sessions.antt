-- The session that was used last.
use Rattle.std.specs.Prelude.{Option, slice_get}
use Rattle.lru_shard.specs.Row.{Row}
use Rattle.lru_shard.specs.Shard.{Shard}

abbrev pub newest : {T : Type 0} → Shard T → Option (Row T)
newest s = slice_get s.rows 0
