-- The caller's type parameters stand in the same places as those of `start`.
use Rattle.lru_async.proofs.launching.launch.Goals as goal

pub start-requires-send-K : goal.start-requires-send-K
start-requires-send-K g c κs within = c.type_bounds.send-K

pub start-requires-send-C : goal.start-requires-send-C
start-requires-send-C g c κs within = c.type_bounds.send-C

pub start-requires-send-G : goal.start-requires-send-G
start-requires-send-G g c κs within = c.type_bounds.send-G

pub start-requires-send-R : goal.start-requires-send-R
start-requires-send-R g c κs within = c.type_bounds.send-R

pub start-requires-sync-K : goal.start-requires-sync-K
start-requires-sync-K g c κs within = c.type_bounds.sync-K

pub start-requires-sync-C : goal.start-requires-sync-C
start-requires-sync-C g c κs within = c.type_bounds.sync-C

pub start-requires-sync-G : goal.start-requires-sync-G
start-requires-sync-G g c κs within = c.type_bounds.sync-G

pub start-requires-send-B : goal.start-requires-send-B
start-requires-send-B g c κs within = c.type_bounds.send-B

pub start-requires-sync-B : goal.start-requires-sync-B
start-requires-sync-B g c κs within = c.type_bounds.sync-B
