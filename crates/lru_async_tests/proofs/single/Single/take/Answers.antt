use Rattle.std.proofs.Common.{◌∙◌}
use Rattle.lru_async_tests.proofs.Singles.{take_single}
use Rattle.lru_async_tests.proofs.single.Single.take.Goals as goal

pub invariant_of-self : goal.invariant_of-self
invariant_of-self c =
    let s = c.self.inside in
    (take_single s.ledger.book c.take.new.self.book s.putter s.taker c.take.new.share c.take.result c.take.ensures.takes c.self.invariant.0, c.take.ensures.seats ∙ c.self.invariant.1)
