use Rattle.lru_actors.specs.World.{PutsPair, IsSameQueue, itself, AtAnyTime}
use Rattle.lru_actors.proofs.Batches.{batch_consumes, as_plain}
use Rattle.lru_actors.proofs.law.batch_law.Goals as goal

pub returns-clause-batches : goal.returns-clause-batches
returns-clause-batches g c = batch_consumes g.K.Clone.is_clone g.D.Dispatch.Puts g.D.Dispatch.IsSame g.D.Dispatch.queue g.D.Dispatch.MayRefuse

pub returns-clause-plain : goal.returns-clause-plain
returns-clause-plain g c = batch_consumes g.K.Clone.is_clone PutsPair IsSameQueue itself AtAnyTime

pub returns-clause-queues : goal.returns-clause-queues
returns-clause-queues g c = as_plain g.K.Clone.is_clone g.D.Dispatch.Puts g.D.Dispatch.IsSame g.D.Dispatch.queue g.D.Dispatch.MayRefuse
