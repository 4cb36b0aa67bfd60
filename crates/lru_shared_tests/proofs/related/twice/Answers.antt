use Rattle.std.proofs.Common.{◌≡◌, ◌*◌, ◌∙◌}
use Rattle.std.proofs.lemmas.Option.{IfSome_then}
use Rattle.lru_shared_tests.proofs.Doubled.{doubled, in_some}
use Rattle.lru_shared_tests.proofs.related.twice.Goals as goal

pub returns-in-Ok-Some : goal.returns-in-Ok-Some
returns-in-Ok-Some g c =
    in_some (λ v. v ≡ 2 * c.args.number) c.in-Ok-Some.field-0-is
    (IfSome_then c.in-Ok-Some.field-0 c.in-Ok-Some.ensures (λ answer t. t.1.1 ∙ doubled t.0 c.args.number t.1.0.0 t.1.0.1.0 t.1.0.1.1))
