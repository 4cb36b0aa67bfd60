use Rattle.std.proofs.Common.{◌∙◌}
use Rattle.std.proofs.lemmas.Option.{IfSome_then}
use Rattle.lru_shared_tests.proofs.Doubled.{doubled, half}
use Rattle.lru_shared_tests.proofs.related.halved.Goals as goal

pub returns : goal.returns
returns g c = IfSome_then c.peek_with.result c.peek_with.ensures (λ answer t. t.1.1 ∙ half t.0.now c.args.number (doubled t.0.now c.args.number t.1.0.0 t.1.0.1.0 t.1.0.1.1))
