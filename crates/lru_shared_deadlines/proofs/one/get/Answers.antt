use Rattle.std.proofs.Common.{rules, subst}
use Rattle.std.specs.Prelude.{IfOk}
use Rattle.lru_shared_deadlines.proofs.Shown.{gets}
use Rattle.lru_shared_deadlines.proofs.one.get.Goals as goal

pub returns-in-Some-Ok : goal.returns-in-Some-Ok
returns-in-Some-Ok g c =
    let got = gets g.Q.Query.stands_for c.args.moment c.args.query _ _ _ c.in-Some-Ok.field-0 c.in-Some-Ok.ensures g.V.Clone.is_clone (λ lent w r left called. search rules) in
    (got.0, (got.1.0, subst (λ r. IfOk r (λ v. g.V.Clone.is_clone got.0.value.value.value v)) c.in-Some-Ok.field-0-is got.1.1))

pub returns-in-Some-Err : goal.returns-in-Some-Err
returns-in-Some-Err g c =
    let got = gets g.Q.Query.stands_for c.args.moment c.args.query _ _ _ c.in-Some-Err.field-0 c.in-Some-Err.ensures g.V.Clone.is_clone (λ lent w r left called. search rules) in (got.0, got.1.0)
