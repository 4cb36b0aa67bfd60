use Rattle.std.proofs.Common.{map, sym, ap, ◌∙◌}
use Rattle.lru_short_locks.proofs.Hands.{some_same}
use Rattle.lru_workers.specs.Accounts.{row_of_slip}
use Rattle.lru_workers.specs.Seats.{slips_at}
use Rattle.lru_workers.proofs.Accounts.{slips_all}
use Rattle.lru_workers.proofs.Slips.{none_added, put_slip}
use Rattle.lru_workers.proofs.bench.Bench.process_with.Goals as goal

pub returns-then-all_evict_none-clause-slips : goal.returns-then-all_evict_none-clause-slips
returns-then-all_evict_none-clause-slips g c = λ _.
    none_added c.args.state.now.shard.rows c.args.self.now.batch.items c.batch_held-change.new.self.effects.items (slips_at c.args.seat.now) (c.all_evict_none.ensures c.if-all_evict_none.true)

pub returns-then-change-ne0-2-clause-slips : goal.returns-then-change-ne0-2-clause-slips
returns-then-change-ne0-2-clause-slips g c = λ _ ss e.
    let after = c.batch_through-change-in-Ledger in (
      c.held_seat-held.result.share.slips,
      ap slips_at c.held_seat-held.ensures,
      ap (map row_of_slip) (sym (some_same after.new.dispatch.seat.share.slips ss e))
          ∙ slips_all g.K.Clone.is_clone _ _ _ _ (λ d. d.seat.share.slips) (λ d h k w d' p. put_slip d.desk.now.book d.seat.share.slips h k w d'.desk.now.book d'.seat.share.slips p) (λ d d' s. s.1)
          c.args.self.now.batch.items after.new.self.effects.items _ _ _ _ _ _ after.ensures.processed,
    )

pub returns-else-change-ne0-2-clause-slips : goal.returns-else-change-ne0-2-clause-slips
returns-else-change-ne0-2-clause-slips g c = λ _ ss e.
    let after = c.batch_through-change-in-Ledger in (
      c.held_seat-held.result.share.slips,
      ap slips_at c.held_seat-held.ensures,
      ap (map row_of_slip) (sym (some_same after.new.dispatch.seat.share.slips ss e))
          ∙ slips_all g.K.Clone.is_clone _ _ _ _ (λ d. d.seat.share.slips) (λ d h k w d' p. put_slip d.desk.now.book d.seat.share.slips h k w d'.desk.now.book d'.seat.share.slips p) (λ d d' s. s.1)
          c.args.self.now.batch.items after.new.self.effects.items _ _ _ _ _ _ after.ensures.processed,
    )
