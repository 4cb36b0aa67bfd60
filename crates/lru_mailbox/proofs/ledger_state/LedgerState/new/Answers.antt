use Rattle.std.proofs.Common.{rules}
use Rattle.lru_mailbox.proofs.TieLaws.{makes}
use Rattle.lru_mailbox.proofs.ledger_state.LedgerState.new.Goals as goal

pub returns : goal.returns
returns g c = makes _ _ _ _ _ (search rules) (search rules) c.in_ok-puts.ensures c.in_ok-takes.ensures
