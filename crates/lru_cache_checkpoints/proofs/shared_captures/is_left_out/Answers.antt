use Rattle.lru_cache_checkpoints.proofs.Restoring.{may_put}
use Rattle.lru_cache_checkpoints.proofs.shared_captures.is_left_out.Goals as goal

pub returns-in-Ok : goal.returns-in-Ok
returns-in-Ok g c = may_put (λ key value. Unit {0}) g.K.PartialEq.eq c.args.row _ _ c.in-Ok.field-0 c.in-Ok.ensures.puts
