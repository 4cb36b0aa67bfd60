use Rattle.std.proofs.Common.{◌≡◌, ◌+◌, ◌++◌, take, drop, vec_len, vec_capacity}
use Rattle.std.specs.VecDeque.{deque_len}
use Rattle.lru_mailbox.proofs.mail_state.move_first.Given as goal

abbrev pub invariant-loop : goal.invariant-loop
invariant-loop g l = record {
  moved : l.into.items ≡ l.initial.into.items ++ take l.counter l.initial.from.items;
  rest : l.from.items ≡ drop l.counter l.initial.from.items;
  there : deque_len l.from + l.counter ≡ deque_len l.initial.from;
  len : vec_len l.into ≡ vec_len l.initial.into + l.counter;
  capacity : vec_capacity l.into ≡ vec_capacity l.initial.into;
}
