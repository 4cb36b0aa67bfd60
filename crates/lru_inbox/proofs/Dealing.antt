-- Logs and those who take, dealt one by one.
use Rattle.std.proofs.Common.{◌≡◌, ℕ, ◌+◌, ◌-◌, ◌<◌, [], ◌∷◌, map, ap}
use Rattle.lru_short_locks.proofs.Hands.{up_rest}
use Rattle.lru_inbox.specs.Logs.{log, front, blank_logs, blank_fronts}

pub logs_rest : {E : Type 0} (i n : ℕ) → i < n → blank_logs {E = E} i (n - i) ≡ log i [] [] ∷ blank_logs (i + 1) (n - (i + 1))
logs_rest {E} i n h = ap (map (λ (k : ℕ). log {E = E} k [] [])) (up_rest i n h)

pub fronts_rest : {E : Type 0} (i n : ℕ) → i < n → blank_fronts {E = E} i (n - i) ≡ front i [] ∷ blank_fronts (i + 1) (n - (i + 1))
fronts_rest {E} i n h = ap (map (λ (k : ℕ). front {E = E} k [])) (up_rest i n h)
