-- An order whose history is accounted for.
use Rattle.std.specs.Prelude.{ℕ}
use Rattle.std.specs.declared.clone.Clone as clone
use Rattle.lru_boxes.specs.declared.tie.BoxRegistry as registry
use Rattle.lru_inbox.specs.declared.tie.Archive as archive
use Rattle.lru_async.specs.declared.async_lru.AsyncLru.{AsyncLru}
use Rattle.lru_async.specs.LoggedOrders.{logged_order}
use Rattle.lru_async.specs.declared.logged_lru.LoggedLru.{LoggedLru}
use Rattle.lru_async.specs.declared.accounted_lru.AccountedLru.{AccountedLru}

-- the order with its logs
abbrev pub logged_of : {K : Type 0} {N : ℕ} {B : Type 0} {C : clone.Ghosts K} {R : registry.Ghosts B} {A : archive.Ghosts B} → AccountedLru K N B C R A → LoggedLru K N B C R A
logged_of accounted = accounted.logged

abbrev pub order_in : {K : Type 0} {N : ℕ} {B : Type 0} {C : clone.Ghosts K} {R : registry.Ghosts B} {A : archive.Ghosts B} → AccountedLru K N B C R A → AsyncLru K N B C R A
order_in accounted = logged_order accounted.logged
