-- What is shared of a shard.
use Rattle.std.specs.Prelude.{Bool, true, false}
use Rattle.std.specs.declared.clone.Clone as clone
use Rattle.lru_boxes.specs.declared.tie.BoxRegistry as registry
use Rattle.lru_inbox.specs.declared.tie.Archive as archive
use Rattle.lru_workers.specs.declared.world.Weights.{Weights}
use Rattle.lru_workers.specs.declared.world.Weights.TheVariants.{Alone, WithRows}
use Rattle.lru_workers.specs.declared.world.ShardPlace.{ShardPlace}

-- whether it has a log
abbrev pub keeps_rows : {K B : Type 0} {C : clone.Ghosts K} {R : registry.Ghosts B} {A : archive.Ghosts B} → Weights K B C R A → Bool
keeps_rows (Alone _) = false
keeps_rows (WithRows _) = true

abbrev pub is_logged : {K B : Type 0} {C : clone.Ghosts K} {R : registry.Ghosts B} {A : archive.Ghosts B} → ShardPlace K B C R A → Bool
is_logged place = keeps_rows place.weights
