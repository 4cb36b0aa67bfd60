use Rattle.std.proofs.Common.{arith, ap, length}
use Rattle.lru_shard.specs.Row.{row_of}
use Rattle.trace_player_inside.proofs.Fronts.{front_short}
use Rattle.trace_player_inside.proofs.Refused.{refused_update}
use Rattle.trace_player_inside.proofs.player.ask.Goals as goal

pub overflow_sub-result : goal.overflow_sub-result
overflow_sub-result c =
    omega (arith, c.len.ensures.value, c.len-len.ensures.value, ap (λ s. length s.rows) c.shrink.ensures, front_short c.args.limit c.update_or_admit.new.self.rows)

pub returns-in-Err-clause-refused : goal.returns-in-Err-clause-refused
returns-in-Err-clause-refused c cap few light =
    refused_update c.args.limit _ _ c.args.unit.now c.update_or_admit.new.self c.args.request.key c.max-weight.result (row_of c.args.unit.now.rows c.args.request.key) c.in-Err.refused
    cap few light (omega (arith, c.max-weight.ensures)) c.if-weight-limit.false (λ d was given e u. u.called) (λ made m. m) c.in-Err.ensures
