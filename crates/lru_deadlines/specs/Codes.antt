-- How a value with its deadline is told apart from another.
use Rattle.std.specs.Prelude.{ℕ, refl}
use Rattle.std.specs.Coded.{Coded, code_by, coded×, coded_ℕ}
use Rattle.lru_deadlines.specs.declared.deadlines.Until.{Until}

abbrev pub until_code : {V : Type 0} → Coded V → Coded (Until V)
until_code {V} value = code_by (V × ℕ) (coded× value coded_ℕ) (λ u. (u.value, u.deadline)) (λ p. record { value = p.0; deadline = p.1 }) (λ _. refl)
