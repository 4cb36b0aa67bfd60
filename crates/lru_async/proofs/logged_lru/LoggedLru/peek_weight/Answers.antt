use Rattle.lru_async.specs.Logged.{fronts_of}
use Rattle.lru_async.proofs.Logged.{looked_more}
use Rattle.lru_async.proofs.logged_lru.LoggedLru.peek_weight.Goals as goal

pub returns-clause-grows : goal.returns-clause-grows
returns-clause-grows g c = record { more = looked_more c.shard_of-shard.result c.look.ensures.0 (fronts_of c.args.caller.now) (fronts_of c.look.new.caller) c.look.ensures.2 }
