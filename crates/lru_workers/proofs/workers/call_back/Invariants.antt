use Rattle.std.proofs.Common.{◌≡◌}
use Rattle.lru_workers.specs.Outlets.{number_at}
use Rattle.lru_workers.proofs.workers.call_back.Given as goal

-- the seat stays the same one
abbrev pub invariant-loop : goal.invariant-loop
invariant-loop g l = (goal.iterator-loop g).can_next l.iterator' × (goal.iterator-loop g).is_finite l.iterator' × (number_at l.seat ≡ number_at l.initial.seat)
