use Rattle.std.proofs.Common.{nat_eq}
use Rattle.std.specs.HashMap as hash
use Rattle.lru_workers.proofs.Apart.{beside_all}
use Rattle.lru_workers.proofs.bench.Bench.batch_held.Goals as goal

pub returns-clause-processed : goal.returns-clause-processed
returns-clause-processed g c = λ queue. beside_all g.K.Clone.is_clone g.D.Dispatch.Puts g.D.Dispatch.IsSame g.D.Dispatch.queue g.D.Dispatch.MayRefuse _ _ _ _ c.args.state.now
    (hash.get nat_eq c.args.weights.now) _ c.args.self.now.batch.items c.batch_through.new.self.effects.items c.batch_through.new.state (hash.get nat_eq c.batch_through.new.weights) _ c.requires.held
    c.batch_through.ensures.processed queue
