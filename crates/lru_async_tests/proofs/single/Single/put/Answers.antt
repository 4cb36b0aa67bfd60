use Rattle.std.proofs.Common.{◌∙◌}
use Rattle.lru_async_tests.proofs.Singles.{put_single}
use Rattle.lru_async_tests.proofs.single.Single.put.Goals as goal

pub invariant_of-self : goal.invariant_of-self
invariant_of-self c =
    let s = c.self.inside in
    (put_single s.ledger c.put.new.self s.putter c.put.new.share s.taker c.args.hash c.args.key c.args.weight c.put.result c.put.ensures.puts c.self.invariant.0, c.put.ensures.seats ∙ c.self.invariant.1)
