-- What a cause is called.
use Rattle.std.specs.Prelude.{ℕ, List, codes}
use Rattle.lru_shard.specs.declared.unit.Cause.{Cause}
use Rattle.lru_shard.specs.declared.unit.Cause.TheVariants.{Memory, Weight, Length}

abbrev pub cause_text : Cause → List ℕ
cause_text Memory = codes "out of memory"
cause_text Weight = codes "too heavy for the shard"
cause_text Length = codes "the shard is full"
