use Rattle.lru_cache_checkpoints.specs.CapturedAges.{aged_row}
use Rattle.lru_cache_checkpoints.proofs.RestoredAges.{may_put}
use Rattle.lru_cache_checkpoints.proofs.shared_deadline_captures.is_left_out.Goals as goal

pub returns-in-Ok : goal.returns-in-Ok
returns-in-Ok g c = may_put g.K.PartialEq.eq (aged_row c.args.row) _ _ c.in-Ok.field-0 c.in-Ok.ensures.puts
