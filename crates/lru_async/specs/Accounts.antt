-- The account of an order that was closed.
use Rattle.std.specs.Prelude.{◌≡◌, ℕ, ◌+◌, List, [], ◌∷◌}
use Rattle.std.specs.declared.clone.Clone as clone
use Rattle.lru_mailbox.specs.declared.slip.Slip.{Slip}
use Rattle.lru_inbox.specs.declared.tie.Archive as archive
use Rattle.lru_inbox.specs.Logs.{log_of}
use Rattle.lru_workers.specs.declared.shard_end.ShardEnd.{ShardEnd}
use Rattle.lru_workers.specs.Accounts.{IsAccount}

-- each shard, from this number up, has its account: by all messages of its log that were taken, of the rows that were left and of its slips
abbrev pub Accounts : {K B : Type 0} {C : clone.Ghosts K} {A : archive.Ghosts B} → ℕ → ℕ → List (ShardEnd K B C A) → List (List Slip) → Type 0
Accounts cap from [] [] = Unit {0}
Accounts cap from (e ∷ es) (slips ∷ lists) =
    ((e.shard ≡ from) × ∥ IsAccount cap (log_of e.log.token.me.0).taken e.state slips ∥₁) × Accounts cap (from + 1) es lists
Accounts cap from _ _ = ⊥
