use Rattle.std.proofs.Common.{rules}
use Rattle.lru_mailbox.proofs.TieLaws.{settled_as}
use Rattle.lru_mailbox.proofs.ledger_state.LedgerState.settle.Goals as goal

pub returns-clause-settled : goal.returns-clause-settled
returns-clause-settled g c = settled_as _ _ _ _ _ _ _ c.requires.tied (search rules) (search rules) (search rules) (search rules)
