-- What is known of a value that is twice its key.
use Rattle.std.specs.Prelude.{◌≡◌, ℕ, true, ◌*◌, ◌/◌, ◌==◌, Option, Some, IfSome}
use Rattle.std.proofs.Math.Logic.{∥∥₁_elim}
use Rattle.std.proofs.Math.Nat.{ℕ_set, mul-div_cancel_left}
use Rattle.std.proofs.lemmas.Bool.{eqb-true}
use Rattle.std.proofs.Common.{◌∙◌, ap, arith, subst}

-- it is twice the number that the key is equal to
pub doubled : (value number key : ℕ) → (key == number) ≡ true → ∥ value ≡ 2 * key ∥₁ → value ≡ 2 * number
doubled value number key same is = ∥∥₁_elim is (ℕ_set value (2 * number)) (λ e. e ∙ ap (λ k. 2 * k) (eqb-true key number same))

-- and half of it is that number
pub half : (value number : ℕ) → value ≡ 2 * number → value / 2 ≡ number
half value number e = ap (λ v. v / 2) e ∙ mul-div_cancel_left number (omega arith)

-- what is said of the value in a `Some`, of this one
pub in_some : {X : Type 0} (P : X → Type 0) {o : Option X} {x : X} → o ≡ Some x → IfSome o P → P x
in_some P e t = subst (λ o. IfSome o P) e t
