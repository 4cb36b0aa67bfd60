-- What the program works on.
use Rattle.pingora_lru.specs.Core.{Core}
use Rattle.rand_core.specs.Stream.{Stream}
use Rattle.lru_shard_files.specs.declared.snapshot.Keyed.{Keyed}

pub record State (F : Type 0) : Type 0 where
  pub core : Core Keyed
  pub folder : F
  -- the random words that are still to be drawn
  pub words : Stream
