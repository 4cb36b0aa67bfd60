-- What stands for a key that may be none: it is hashed as that key, and stands for one at most.
use Rattle.std.specs.Prelude.{◌≡◌, ℕ, List, Bool, true, false, Option, Some, None, IsTrue, refl}
use Rattle.std.specs.Hash as fed
use Rattle.std.specs.Option.{option_eq}
use Rattle.std.proofs.Common.{ap}
use Rattle.std.proofs.lemmas.Bool.{false≢true}

-- none stands for none, and what is some for what it stands for
abbrev pub some_stands : {K Q : Type 0} → (K → Q → Bool) → Option K → Option Q → Bool
some_stands f None None = true
some_stands f None (Some q) = false
some_stands f (Some k) None = false
some_stands f (Some k) (Some q) = f k q

module _ {K Q : Type 0} (f : K → Q → Bool) where
  pub hashed_alike : (h : K → List (List ℕ)) (h' : Q → List (List ℕ)) → ((q : Q) (k : K) → IsTrue (f k q) → h k ≡ h' q) → (q : Option Q) (k : Option K) → IsTrue (some_stands f k q) → fed.option h k ≡ fed.option h' q
  hashed_alike h h' alike None None e = refl
  hashed_alike h h' alike None (Some k) e = absurd (false≢true e)
  hashed_alike h h' alike (Some q) None e = absurd (false≢true e)
  hashed_alike h h' alike (Some q) (Some k) e = ap (λ ws. fed.option {T = Unit {0}} (λ _. ws) (Some tt)) (alike q k e)

  pub equal_alike : (eq : K → K → Bool) → ((q : Q) (x y : K) → IsTrue (f x q) → IsTrue (f y q) → IsTrue (eq x y)) → (q : Option Q) (x y : Option K) → IsTrue (some_stands f x q) → IsTrue (some_stands f y q) → IsTrue (option_eq eq x y)
  equal_alike eq agree None None None a b = refl
  equal_alike eq agree None None (Some y) a b = absurd (false≢true b)
  equal_alike eq agree None (Some x) y a b = absurd (false≢true a)
  equal_alike eq agree (Some q) None y a b = absurd (false≢true a)
  equal_alike eq agree (Some q) (Some x) None a b = absurd (false≢true b)
  equal_alike eq agree (Some q) (Some x) (Some y) a b = agree q x y a b
