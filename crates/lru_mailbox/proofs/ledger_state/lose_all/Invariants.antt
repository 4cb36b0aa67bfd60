use Rattle.std.proofs.Common.{◌≡◌, ◌+◌, ◌++◌, ◌≤◌}
use Rattle.std.specs.VecDeque.{deque_len, deque_capacity}
use Rattle.lru_mailbox.specs.Ledger.{slips_of}
use Rattle.lru_mailbox.proofs.ledger_state.lose_all.Given as goal

abbrev pub invariant-loop-slip : goal.invariant-loop-slip
invariant-loop-slip g l = record {
  slips : slips_of l.waiting.items ++ l.lost.items ≡ slips_of l.initial.waiting.items ++ l.initial.lost.items;
  room : deque_len l.lost + deque_len l.waiting ≤ deque_capacity l.lost;
}

abbrev pub decreases-loop-slip : goal.decreases-loop-slip
decreases-loop-slip g l = deque_len l.waiting
