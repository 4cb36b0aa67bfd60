-- The caller's type parameters stand in the same places as those of what it calls.
use Rattle.lru_async.proofs.build.build_accounted.Goals as goal

pub build_over_logs_and_ledger-requires-send-K : goal.build_over_logs_and_ledger-requires-send-K
build_over_logs_and_ledger-requires-send-K g c κs within = c.type_bounds.send-K

pub build_over_logs_and_ledger-requires-send-C : goal.build_over_logs_and_ledger-requires-send-C
build_over_logs_and_ledger-requires-send-C g c κs within = c.type_bounds.send-C

pub build_over_logs_and_ledger-requires-send-G : goal.build_over_logs_and_ledger-requires-send-G
build_over_logs_and_ledger-requires-send-G g c κs within = c.type_bounds.send-G

pub build_over_logs_and_ledger-requires-send-R : goal.build_over_logs_and_ledger-requires-send-R
build_over_logs_and_ledger-requires-send-R g c κs within = c.type_bounds.send-R

pub build_over_logs_and_ledger-requires-send-B : goal.build_over_logs_and_ledger-requires-send-B
build_over_logs_and_ledger-requires-send-B g c κs within = c.type_bounds.send-B

pub build_over_logs_and_ledger-requires-sync-K : goal.build_over_logs_and_ledger-requires-sync-K
build_over_logs_and_ledger-requires-sync-K g c κs within = c.type_bounds.sync-K

pub build_over_logs_and_ledger-requires-sync-C : goal.build_over_logs_and_ledger-requires-sync-C
build_over_logs_and_ledger-requires-sync-C g c κs within = c.type_bounds.sync-C

pub build_over_logs_and_ledger-requires-sync-G : goal.build_over_logs_and_ledger-requires-sync-G
build_over_logs_and_ledger-requires-sync-G g c κs within = c.type_bounds.sync-G

pub build_over_logs_and_ledger-requires-sync-B : goal.build_over_logs_and_ledger-requires-sync-B
build_over_logs_and_ledger-requires-sync-B g c κs within = c.type_bounds.sync-B
