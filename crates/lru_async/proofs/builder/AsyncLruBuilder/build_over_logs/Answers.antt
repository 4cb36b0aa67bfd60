-- The caller's type parameters stand in the same places as those of `launch`.
use Rattle.lru_async.proofs.builder.AsyncLruBuilder.build_over_logs.Goals as goal

pub launch-requires-send-K : goal.launch-requires-send-K
launch-requires-send-K g c κs within = c.type_bounds.send-K

pub launch-requires-send-C : goal.launch-requires-send-C
launch-requires-send-C g c κs within = c.type_bounds.send-C

pub launch-requires-send-G : goal.launch-requires-send-G
launch-requires-send-G g c κs within = c.type_bounds.send-G

pub launch-requires-send-R : goal.launch-requires-send-R
launch-requires-send-R g c κs within = c.type_bounds.send-R

pub launch-requires-sync-K : goal.launch-requires-sync-K
launch-requires-sync-K g c κs within = c.type_bounds.sync-K

pub launch-requires-sync-C : goal.launch-requires-sync-C
launch-requires-sync-C g c κs within = c.type_bounds.sync-C

pub launch-requires-sync-G : goal.launch-requires-sync-G
launch-requires-sync-G g c κs within = c.type_bounds.sync-G

pub launch-requires-send-B : goal.launch-requires-send-B
launch-requires-send-B g c κs within = c.type_bounds.send-B

pub launch-requires-sync-B : goal.launch-requires-sync-B
launch-requires-sync-B g c κs within = c.type_bounds.sync-B
