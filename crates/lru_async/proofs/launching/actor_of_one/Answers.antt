-- The shards are those that the actor is made for.
use Rattle.lru_async.proofs.launching.actor_of_one.Goals as goal

pub new-requires : goal.new-requires
new-requires g c = record { some = c.requires }

pub returns : goal.returns
returns g c = c.new.ensures.shards
