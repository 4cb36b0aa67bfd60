-- What a refusal of the bytes of a shard is called.
use Rattle.std.specs.Prelude.{ℕ, List, codes}
use Rattle.lru_shard_files.specs.declared.snapshot.LoadError.{LoadError}
use Rattle.lru_shard_files.specs.declared.snapshot.LoadError.TheVariants as unloaded
use Rattle.lru_shard.specs.declared.unit.Cause.TheVariants.{Memory, Weight, Length}

abbrev pub load_error_text : LoadError → List ℕ
load_error_text unloaded.Damaged = codes "damaged"
load_error_text (unloaded.Unit Memory) = codes "refused memory"
load_error_text (unloaded.Unit Weight) = codes "refused weight"
load_error_text (unloaded.Unit Length) = codes "refused length"
