use Rattle.std.proofs.Common.{◌≡◌, vec_len, vec_capacity}
use Rattle.lru_mailbox.specs.Slips.{AreFresh}
use Rattle.lru_mailbox.proofs.ledger_state.fresh_shares.Given as goal

abbrev pub invariant-loop : goal.invariant-loop
invariant-loop g l = record {
  fresh : AreFresh l.counter l.shares.items;
  len : vec_len l.shares ≡ l.counter;
  room : vec_capacity l.shares ≡ vec_capacity l.initial.shares;
}
