-- What is known of an order served by actors, whatever its threads do.
use Rattle.std.specs.Prelude.{◌≡◌, ℕ, None, vec_len}
use Rattle.std.specs.Arc.{arc_value}
use Rattle.std.specs.declared.alloc.Global.{Global}
use Rattle.std.specs.declared.clone.Clone as clone
use Rattle.lru_boxes.specs.declared.tie.BoxRegistry as registry
use Rattle.lru_inbox.specs.declared.tie.Archive as archive
use Rattle.lru_workers.specs.declared.world.OrderLimits.{OrderLimits}
use Rattle.lru_workers.specs.declared.world.World.{World}
use Rattle.lru_async.specs.declared.async_lru.AsyncLru.{AsyncLru}
use Rattle.lru_async.specs.declared.ledger_lru.LedgerLru.{LedgerLru}
use Rattle.lru_async.specs.declared.builder.BuilderSettings.{BuilderSettings}

-- what a builder goes by that was told a limit on the weight alone
abbrev pub untold : ℕ → BuilderSettings
untold limit = record { weight_limit = limit; len_watermark = None; capacity = 0; num_eviction_workers = 1; num_callback_workers = 1; seed = 0 }

-- the limits that a builder was told
abbrev pub limits_told : BuilderSettings → OrderLimits
limits_told settings = record { weight_limit = settings.weight_limit; len_watermark = settings.len_watermark }

-- what the threads of an order share
abbrev pub world_of : {K : Type 0} {N : ℕ} {B : Type 0} {C : clone.Ghosts K} {R : registry.Ghosts B} {A : archive.Ghosts B} → AsyncLru K N B C R A → World K B C R A
world_of lru = arc_value lru.world

-- what its memory comes from
abbrev pub alloc_of : {K : Type 0} {N : ℕ} {B : Type 0} {C : clone.Ghosts K} {R : registry.Ghosts B} {A : archive.Ghosts B} → AsyncLru K N B C R A → Global
alloc_of lru = lru.alloc

-- the limits that an order has
abbrev pub limits_of : {K : Type 0} {N : ℕ} {B : Type 0} {C : clone.Ghosts K} {R : registry.Ghosts B} {A : archive.Ghosts B} → AsyncLru K N B C R A → OrderLimits
limits_of lru = (arc_value lru.world).limits

-- as many eviction workers and callback workers were started as a builder was told
pub record HasWorkers {K : Type 0} {N : ℕ} {B : Type 0} {C : clone.Ghosts K} {R : registry.Ghosts B} {A : archive.Ghosts B} (lru : AsyncLru K N B C R A) (settings : BuilderSettings) : Type 0 where
  pub evicting : vec_len lru.eviction_workers ≡ settings.num_eviction_workers
  pub calling : vec_len lru.callback_workers ≡ settings.num_callback_workers

-- the order of one whose evicted pairs are counted
abbrev pub order_of : {K : Type 0} {N : ℕ} {B : Type 0} {C : clone.Ghosts K} {R : registry.Ghosts B} {A : archive.Ghosts B} → LedgerLru K N B C R A → AsyncLru K N B C R A
order_of ledger = ledger.lru
