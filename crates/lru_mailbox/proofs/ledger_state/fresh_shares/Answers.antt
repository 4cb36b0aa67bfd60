use Rattle.std.proofs.Common.{rules}
use Rattle.lru_mailbox.proofs.TieLaws.{fresh_none, fresh_more, fresh_all}
use Rattle.lru_mailbox.proofs.ledger_state.fresh_shares.Goals as goal

pub loop-init : goal.loop-init
loop-init g c = record { fresh = fresh_none _ c.in_ok-shares.ensures.items; len = search rules; room = search rules }

pub loop-preserved : goal.loop-preserved
loop-preserved g c = record {
  fresh = fresh_more _ _ _ c.new.result c.push_reserved.ensures.items c.new.ensures c.loop.invariant.fresh;
  len = search rules;
  room = search rules;
}

pub returns : goal.returns
returns g c = fresh_all _ _ _ c.loop-test.false c.loop.auto.counter-end c.loop.invariant.fresh
