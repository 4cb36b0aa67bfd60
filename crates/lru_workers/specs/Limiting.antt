-- Whether the limits of all shards together are passed, where other threads may change what they hold.
use Rattle.std.specs.Prelude.{◌≡◌, ℕ, ◌≤◌, Bool}
use Rattle.lru_shard.specs.Limits.{is_past}
use Rattle.lru_workers.specs.declared.world.OrderLimits.{OrderLimits}

-- it may have been so, or not: there is a weight and a length, of 64 bits each, of which it is told
pub record MayBePast (limits : OrderLimits) (past : Bool) : Type 0 where
  pub weight : ℕ
  pub len : ℕ
  pub weight_fits : weight ≤ 18446744073709551615
  pub len_fits : len ≤ 18446744073709551615
  pub told : past ≡ is_past limits.weight_limit limits.len_watermark weight len
