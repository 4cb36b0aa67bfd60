-- How a value that ends, and counts, are told apart from others.
use Rattle.std.specs.Prelude.{ℕ, refl}
use Rattle.std.specs.Coded.{Coded, code_by, coded×, coded_ℕ}
use Rattle.lru_shared_deadlines.specs.declared.ages.Aged.{Aged}
use Rattle.lru_shared_deadlines.specs.declared.ages.Ages.{Ages}

abbrev pub aged_code : {V : Type 0} → Coded V → Coded (Aged V)
aged_code {V} value = code_by (V × ℕ) (coded× value coded_ℕ) (λ a. (a.value, a.ends)) (λ p. record { value = p.0; ends = p.1 }) (λ _. refl)

abbrev pub ages_code : Coded Ages
ages_code = code_by (ℕ × ℕ) (coded× coded_ℕ coded_ℕ) (λ a. (a.live, a.idle)) (λ p. record { live = p.0; idle = p.1 }) (λ _. refl)
