use Rattle.std.proofs.Common.{rules, subst}
use Rattle.lru_shared_segmented.specs.Calls.{Gets}
use Rattle.lru_shared_segmented.proofs.Got.{as_found, gets, gets_none}
use Rattle.lru_shared_segmented.proofs.one.get.Goals as goal

pub returns-in-Some-Ok : goal.returns-in-Some-Ok
returns-in-Some-Ok g c =
    subst (λ r. Gets g.Q.Query.stands_for g.V.Clone.is_clone c.args.shard.now c.args.query (as_found r) c.lend.new.shard) c.in-Some-Ok.field-0-is
    (gets g.Q.Query.stands_for g.V.Clone.is_clone c.args.query c.args.shard.now c.lend.new.shard _ c.in-Some-Ok.field-0 c.in-Some-Ok.ensures (λ lent w r left called. search rules))

pub returns-in-Some-Err : goal.returns-in-Some-Err
returns-in-Some-Err g c =
    subst (λ r. Gets g.Q.Query.stands_for g.V.Clone.is_clone c.args.shard.now c.args.query (as_found r) c.lend.new.shard) c.in-Some-Err.field-0-is
    (gets g.Q.Query.stands_for g.V.Clone.is_clone c.args.query c.args.shard.now c.lend.new.shard _ c.in-Some-Err.field-0 c.in-Some-Err.ensures (λ lent w r left called. search rules))

pub returns-in-None : goal.returns-in-None
returns-in-None g c = gets_none g.Q.Query.stands_for g.V.Clone.is_clone c.args.query c.args.shard.now c.lend.new.shard c.in-None.ensures.0 c.in-None.ensures.1
