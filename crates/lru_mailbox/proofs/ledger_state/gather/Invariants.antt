use Rattle.std.proofs.Common.{◌≡◌, ◌+◌, ◌++◌, length, vec_len, vec_capacity}
use Rattle.lru_mailbox.specs.Slips.{slips_in, lists_of}
use Rattle.lru_mailbox.proofs.ledger_state.gather.Given as goal

abbrev pub invariant-loop-share : goal.invariant-loop-share
invariant-loop-share g l = record {
  lists : lists_of l.lists.items ≡ lists_of l.initial.lists.items ++ slips_in l.yielded;
  len : vec_len l.lists ≡ vec_len l.initial.lists + length l.yielded;
  room : vec_capacity l.lists ≡ vec_capacity l.initial.lists;
}
