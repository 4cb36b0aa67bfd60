-- What holds of an answer by two clauses.
use Rattle.std.proofs.Common.{Result, Ok, Err}
use Rattle.std.specs.Prelude.{IfErr, IfOk}

module _ {T E : Type 0} where
  pub both_ok : (r : Result T E) (P Q : T → Type 0) → IfOk r P → IfOk r Q → IfOk r (λ done. P done × Q done)
  both_ok (Ok done) P Q p q = (p, q)
  both_ok (Err error) P Q p q = p

  pub both_err : (r : Result T E) (P Q : E → Type 0) → IfErr r P → IfErr r Q → IfErr r (λ error. P error × Q error)
  both_err (Ok done) P Q p q = p
  both_err (Err error) P Q p q = (p, q)
