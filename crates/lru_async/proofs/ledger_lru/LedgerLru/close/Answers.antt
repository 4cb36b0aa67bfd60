use Rattle.std.proofs.Common.{◌∙◌, sym, ap}
use Rattle.lru_short_locks.specs.Hands.{up}
use Rattle.lru_async.proofs.Seats.{as_long}
use Rattle.lru_async.proofs.ledger_lru.LedgerLru.close.Goals as goal

pub settle-requires-clause-putters : goal.settle-requires-clause-putters
settle-requires-clause-putters g c = c.all_puts-puts.ensures.numbers ∙ ap (λ n. up 0 n) (sym c.args.self.putters_are)

pub settle-requires-clause-takers : goal.settle-requires-clause-takers
settle-requires-clause-takers g c = c.all_takes-takes.ensures.numbers ∙ ap (λ n. up 0 n) (sym c.args.self.takers_are)

pub returns-clause-puts : goal.returns-clause-puts
returns-clause-puts g c = as_long (λ s. s.number) (λ s. s.share.slips) c.all_puts-puts.result.items c.settle.result.puts.items _ c.all_puts-puts.ensures.numbers c.settle.ensures.puts

pub returns-clause-takes : goal.returns-clause-takes
returns-clause-takes g c = as_long (λ s. s.number) (λ s. s.share.slips) c.all_takes-takes.result.items c.settle.result.takes.items _ c.all_takes-takes.ensures.numbers c.settle.ensures.takes ∙ sym c.args.self.takers_are
