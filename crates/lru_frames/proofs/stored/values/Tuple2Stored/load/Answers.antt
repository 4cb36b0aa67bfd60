use Rattle.std.proofs.Common.{rules, ◌++◌, sym, ◌∙◌, append_assoc}
use Rattle.lru_frames.proofs.stored.values.Tuple2Stored.load.Goals as goal

pub returns-in_err-second-clause-damaged : goal.returns-in_err-second-clause-damaged
returns-in_err-second-clause-damaged g c = λ is_err value rest is_value h.
    let one = g.met.A.Stored.tells_its_end c.in_ok-first.first value.0 c.in_ok-first.rest.now (g.B.Stored.bytes_of value.1 ++ rest) c.in_ok-first.ensures.value is_value.0
    (sym c.in_ok-first.ensures.bytes ∙ h ∙ append_assoc (g.A.Stored.bytes_of value.0) (g.B.Stored.bytes_of value.1) rest) in
    let damaged = c.in_err-second.ensures.damaged in
    damaged (search rules) value.1 rest is_value.1 one.1
