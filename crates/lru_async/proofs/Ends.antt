-- The account of a shard more.
use Rattle.std.proofs.Common.{◌≡◌, ℕ, suc, ◌+◌, List, [], ◌∷◌, ◌++◌, length, refl, ap, ◌∙◌, arith}
use Rattle.std.specs.declared.clone.Clone as clone
use Rattle.lru_mailbox.specs.declared.slip.Slip.{Slip}
use Rattle.lru_inbox.specs.declared.tie.Archive as archive
use Rattle.lru_inbox.specs.Logs.{log_of}
use Rattle.lru_workers.specs.declared.shard_end.ShardEnd.{ShardEnd}
use Rattle.lru_workers.specs.Accounts.{IsAccount}
use Rattle.lru_async.specs.Accounts.{Accounts}

module _ {K B : Type 0} {C : clone.Ghosts K} {A : archive.Ghosts B} (cap : ℕ) where
  pub accounts_more : (from n : ℕ) (es : List (ShardEnd K B C A)) (lists : List (List Slip)) (e : ShardEnd K B C A) (slips : List Slip) → Accounts cap from es lists → length es ≡ n → e.shard ≡ from + n
      → ∥ IsAccount cap (log_of e.log.token.me.0).taken e.state slips ∥₁ → Accounts cap from (es ++ e ∷ []) (lists ++ slips ∷ [])
  accounts_more from n [] [] e slips h len is a = ((is ∙ (let z : from + n ≡ from = omega (arith, len) in z), a), tt)
  accounts_more from n [] (l ∷ ls) e slips h len is a = absurd h
  accounts_more from n (f ∷ es) [] e slips h len is a = absurd h
  accounts_more from n (f ∷ es) (l ∷ ls) e slips h len is a =
      (h.0, accounts_more (from + 1) (length es) es ls e slips h.1 refl (is ∙ (let z : from + n ≡ from + 1 + length es = omega (arith, len) in z)) a)
