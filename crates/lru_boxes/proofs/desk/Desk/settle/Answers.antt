use Rattle.std.proofs.Common.{◌≡◌, length, rules, arith, sym, ap, ◌∙◌}
use Rattle.lru_mailbox.specs.Ledger.{Seats}
use Rattle.lru_mailbox.proofs.TieLaws.{settled_as}
use Rattle.lru_short_locks.specs.Hands.{up}
use Rattle.lru_short_locks.proofs.Hands.{as_many}
use Rattle.lru_boxes.proofs.Desks.{tied_told}
use Rattle.lru_boxes.proofs.desk.Desk.settle.Goals as goal

pub gather_puts-requires-clause-numbers : goal.gather_puts-requires-clause-numbers
gather_puts-requires-clause-numbers g c = c.requires.putters ∙ ap (λ n. up 0 n) (sym c.self.invariant.1.1.putters_are)

pub gather_puts-requires-clause-room : goal.gather_puts-requires-clause-room
gather_puts-requires-clause-room g c =
    let many = as_many (λ s. s.number) c.args.puts.items _ c.requires.putters in
    let room = c.end-settled.ensures.puts.1 in
    let seats = ap (λ (s : Seats). s.putters) c.self.invariant.1.1.seats in
    omega (arith, many, room, seats)

pub gather_takes-requires-clause-numbers : goal.gather_takes-requires-clause-numbers
gather_takes-requires-clause-numbers g c = c.requires.takers ∙ ap (λ n. up 0 n) (sym c.self.invariant.1.1.takers_are)

pub gather_takes-requires-clause-room : goal.gather_takes-requires-clause-room
gather_takes-requires-clause-room g c =
    let many = as_many (λ s. s.number) c.args.takes.items _ c.requires.takers in
    let room = c.end-settled.ensures.takes.1 in
    let seats = ap (λ (s : Seats). s.takers) c.self.invariant.1.1.seats in
    omega (arith, many, room, seats)

pub returns-clause-settled : goal.returns-clause-settled
returns-clause-settled g c =
    settled_as c.self.inside.state.book _ _ _ _ _ _ (tied_told _ _ _ _ _ c.gather_puts.ensures.known c.gather_takes.ensures.known c.self.invariant.1.1.tied)
    c.gather_puts.ensures.lists c.gather_takes.ensures.lists c.end-settled.ensures.lost c.end-settled.ensures.left
