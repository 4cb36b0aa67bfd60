use Rattle.std.proofs.Common.{◌∙◌}
use Rattle.lru_shared_tests.proofs.Doubled.{doubled}
use Rattle.lru_shared_tests.proofs.related.twice_made.Goals as goal

pub returns-in-Ok : goal.returns-in-Ok
returns-in-Ok g c =
    c.in-Ok.ensures.value.1.1 ∙ doubled c.in-Ok.ensures.value.0 c.args.number c.in-Ok.ensures.value.1.0.0 c.in-Ok.ensures.value.1.0.1.0 c.in-Ok.ensures.value.1.0.1.1
