-- What an order with logs has.
use Rattle.std.specs.Prelude.{ℕ}
use Rattle.std.specs.declared.clone.Clone as clone
use Rattle.lru_boxes.specs.declared.tie.BoxRegistry as registry
use Rattle.lru_inbox.specs.declared.tie.Archive as archive
use Rattle.lru_async.specs.declared.async_lru.AsyncLru.{AsyncLru}
use Rattle.lru_async.specs.declared.logged_lru.LoggedLru.{LoggedLru}

-- the order of one that keeps logs
abbrev pub logged_order : {K : Type 0} {N : ℕ} {B : Type 0} {C : clone.Ghosts K} {R : registry.Ghosts B} {A : archive.Ghosts B} → LoggedLru K N B C R A → AsyncLru K N B C R A
logged_order logged = logged.lru
