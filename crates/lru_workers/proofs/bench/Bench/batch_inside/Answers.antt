use Rattle.lru_workers.proofs.Apart.{with_any_all}
use Rattle.lru_workers.proofs.bench.Bench.batch_inside.Goals as goal

pub returns-clause-processed : goal.returns-clause-processed
returns-clause-processed g c = λ look queue. with_any_all g.K.Clone.is_clone g.D.Dispatch.Puts g.D.Dispatch.IsSame g.D.Dispatch.queue g.D.Dispatch.MayRefuse c.args.state.now _ queue c.args.self.now.batch.items
    c.batch_held.new.self.effects.items c.batch_held.new.state _ queue c.requires.inside (c.batch_held.ensures.processed queue) look
